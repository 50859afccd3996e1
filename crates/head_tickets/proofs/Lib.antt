mod Examples
pub mod TicketLists
