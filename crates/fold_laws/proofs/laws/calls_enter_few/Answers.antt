use Rattle.fold_laws.proofs.Touring.{tour_enters, tour_adds, tour_pauses}
use Rattle.fold_laws.proofs.laws.calls_enter_few.Goals as goal

pub returns-clause-entered : goal.returns-clause-entered
returns-clause-entered c = tour_enters

pub returns-clause-contexts : goal.returns-clause-contexts
returns-clause-contexts c = tour_adds

pub returns-clause-segments : goal.returns-clause-segments
returns-clause-segments c = tour_pauses
