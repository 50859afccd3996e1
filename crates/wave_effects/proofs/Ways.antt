-- What the private calls of a Stop leave, part by part.
use Rattle.std.proofs.Common.{◌≡◌, ◌∙◌, ℕ, suc, ◌==◌, Bool, true, false, [], ◌∷◌, ◌++◌, Option, Some, None, refl, sym, ap, subst, cond}
use Rattle.std.specs.Prelude.{option_map, IfSome}
use Rattle.std.specs.FinMap as table
use Rattle.std.specs.FinSet as tickets
use Rattle.wave_base.specs.declared.outcome.EventResult.{EventResult}
use Rattle.wave_base.specs.declared.path.Path.{Path}
use Rattle.wave_base.specs.declared.path.Step.{Step}
use Rattle.wave_base.specs.declared.record.Record.{Record}
use Rattle.wave_base.specs.Paths.{is_above, parent_of}
use Rattle.context_queue.specs.declared.entry.Entry as E
use Rattle.context_queue.specs.Entries.{StandsFor as EntryStands, claim_of, is_holder, record_of}
use Rattle.context_queue.specs.Lines.{Group, Line}
use Rattle.host_map.specs.Stores.{Stores, IsAt, Matches}
use Rattle.event_cells.specs.declared.cell.Cell.{Cell}
use Rattle.event_cells.specs.declared.outbox.Envelope.{Envelope}
use Rattle.event_cells.specs.Cells.{IsEnvelope, StandsFor}
use Rattle.code_actor.specs.CodeActors.{Fields}
use Rattle.wave_states.specs.Actors.{Go, Down, Back, Over}
use Rattle.wave_states.specs.States as theory
use Rattle.wave_states.specs.States.{Column, Entry, Mail, hold_at, set}
use Rattle.wave_states.specs.Desks.{Desk, give_up, send}
use Rattle.wave_states.specs.Steps.{Part, cell_of, column_left, after_end, host_or, into_child, over_by, over_here, over_there, put_back, with_body, with_entry}
use Rattle.wave_theory.proofs.Basics.{none_not, some_not, some_same}
use Rattle.wave_effects.specs.declared.actor.Actor.{Actor}
use Rattle.wave_effects.specs.inner.Leaving.{HasLeft, Hold, Tells, away_from, into, paused_by, sent_off, stopped_by}
use Rattle.wave_effects.proofs.Leaves.{into_is}
use Rattle.wave_effects.proofs.Parts.{is_at_as, set_here}
use Rattle.wave_effects.proofs.StoreParts.{Writes, get_here, stands_there, written_here}

-- an entry with another record
pub record HasBody (e e' : E.Entry) (b : Record) : Type 0 where
  pub body : e'.body ≡ Some b
  pub holder : e'.holder ≡ e.holder
  pub peeks : e'.peeks ≡ e.peeks
  pub served : e'.served ≡ e.served
  pub waiting : e'.waiting ≡ e.waiting
  pub moves : e'.moves ≡ e.moves

body_back : (e e' : E.Entry) (en : Entry Fields) (b : Record) → HasBody e e' b → EntryStands e en → EntryStands e' (with_body en (Some (record_of b)))
body_back e e' en b h s = record {
  body = sym (ap (option_map record_of) h.body);
  alone = λ t. s.alone t ∙ ap (λ o. is_holder o t) (sym h.holder);
  beside = λ t. s.beside t ∙ ap (λ (g : Group). tickets.contains g.tickets t) (sym h.peeks);
  served = s.served ∙ sym h.served;
  waiting = λ n. s.waiting n ∙ ap (λ (l : Line). option_map claim_of (table.get l.claims n)) (sym h.waiting);
  moves = s.moves ∙ sym h.moves;
}

pub put_here : (st st' : Stores) (p : Path) (e e' : E.Entry) (b : Record) → table.get st.store p ≡ Some e → st'.store ≡ table.insert st.store p e' → st'.gone ≡ st.gone → HasBody e e' b
    → (c : Column Fields) (host : ℕ) (en : Entry Fields) → IsAt st p c host → c.store host ≡ Some en → IsAt st' p (with_entry c host (Some (with_body en (Some (record_of b))))) host
put_here st st' p e e' b found store gone h c host en at is =
    let w : Writes st st' p e' = record { store = store; gone = gone } in
    written_here st st' p e' host w c (with_body en (Some (record_of b))) at (body_back e e' en b h (stands_there (table.get st.store p) (c.store host) e en at.entry found is))

pub put_moves : (st : Stores) (p : Path) (e e' : E.Entry) → table.get st.store p ≡ Some e → e'.moves ≡ e.moves → (x f : E.Entry) → table.get st.store p ≡ Some x → table.get (table.insert st.store p e') p ≡ Some f → f.moves ≡ x.moves
put_moves st p e e' found moves x f gx gf = ap (λ (y : E.Entry). y.moves) (some_same f e' (sym gf ∙ get_here st.store p e')) ∙ moves ∙ ap (λ (y : E.Entry). y.moves) (some_same e x (sym found ∙ gx))

-- what is said of the entry that a store has
pub from_store : {X : Type 0} (o : Option E.Entry) (r : Option (Entry Fields)) (en : Entry Fields) → Matches o r → r ≡ Some en → IfSome o (λ e. EntryStands e en → X) → X
from_store None r en m is h = absurd (subst (Matches None) is m)
from_store (Some e) r en m is h = h (subst (Matches (Some e)) is m)

-- ---- the mail

pub mail_there : (x : Mail Fields × theory.Record Fields) (r : Record) (mail : Option Envelope) (r' : Record) → Tells (Some x) r mail r' → (e : Envelope) × (mail ≡ Some e) × IsEnvelope e x.0 × (record_of r' ≡ x.1)
mail_there x r None r' h = absurd h
mail_there x r (Some e) r' h = (e, refl, h.0, h.1)

pub no_mail : (r : Record) (mail : Option Envelope) (r' : Record) → Tells None r mail r' → r' ≡ r
no_mail r None r' h = h
no_mail r (Some e) r' h = absurd h

-- it goes to the child
pub into_path : (host : ℕ) (p : Path) (r : theory.Record Fields) (s : Step) (peek : Bool) (o : Option Hold) → ((into host p r s peek o).0).path ≡ p ++ s ∷ []
into_path host p r s peek None = refl
into_path host p r s peek (Some h) = refl

-- ---- what is left

module _ (c : Cell Actor) (st : Stores) (p : Path) (host : ℕ) (x y : Part Actor Fields EventResult) where
  -- where the actor goes on
  pub on_left : (z : Desk Actor Fields × Entry Fields) → record { cell = cell_of z.0 x.cell.result; column = with_entry x.column host (Some z.1) } ≡ y → x.cell.result ≡ None → StandsFor c z.0 → IsAt st p (with_entry x.column host (Some z.1)) host → HasLeft c st p host None y
  on_left z is none stands at = record {
    desk = z.0;
    stands = stands;
    cell = ap (λ (u : Part Actor Fields EventResult). u.cell) (sym is) ∙ ap (cell_of z.0) none;
    there = subst (λ (u : Column Fields). IsAt st p u host) (ap (λ (u : Part Actor Fields EventResult). u.column) is) at;
  }

  module _ (moved : EventResult → Option (Path × ℕ)) (d : Desk Actor Fields) (en : Entry Fields) (r : theory.Record Fields) (peek : Bool) where
    module _ (s : Step) (b : Record) (none : x.cell.result ≡ None) (same : record_of b ≡ (into host p r s peek (hold_at d.event.held (p ++ s ∷ []))).1) (at : IsAt st p (with_entry x.column host (Some (with_body en (Some (record_of b))))) host) where
      abbrev mail : Mail Fields
      mail = (into host p r s peek (hold_at d.event.held (p ++ s ∷ []))).0

      child : into_child p host d en r.fields r.children s peek (hold_at d.event.held (p ++ s ∷ [])) ≡ (send d mail, with_body en (Some (record_of b)))
      child = into_is p host d en r s peek (hold_at d.event.held (p ++ s ∷ [])) ∙ ap (λ u. (send d mail, with_body en (Some u))) (sym same)

      pub go_left : (looks : Bool) → stopped_by moved p host x d en r peek (Go s) looks ≡ Some y → StandsFor c (give_up (is_above (p ++ s ∷ [])) (send d mail)) → HasLeft c st p host None y
      go_left true e stands = absurd (none_not e)
      go_left false e stands =
          let is = ap (λ (u : Desk Actor Fields × Entry Fields). put_back x host (give_up (is_above (p ++ s ∷ [])) u.0, u.1)) (sym child) ∙ some_same (paused_by moved p host x d en r peek (Go s)) y e in
          on_left (give_up (is_above (p ++ s ∷ [])) (send d mail), with_body en (Some (record_of b))) is none stands at

    pub down_left : (s : Step) (b : Record) → x.cell.result ≡ None → record_of b ≡ (into host p r s false (hold_at d.event.held (p ++ s ∷ []))).1 → IsAt st p (with_entry x.column host (Some (with_body en (Some (record_of b))))) host
        → (looks : Bool) → stopped_by moved p host x d en r peek (Down s) looks ≡ Some y → StandsFor c (send d (into host p r s false (hold_at d.event.held (p ++ s ∷ []))).0) → HasLeft c st p host None y
    down_left s b none same at true e stands = absurd (none_not e)
    down_left s b none same at false e stands =
        let m = (into host p r s false (hold_at d.event.held (p ++ s ∷ []))).0 in
        let child = into_is p host d en r s false (hold_at d.event.held (p ++ s ∷ [])) ∙ ap (λ u. (send d m, with_body en (Some u))) (sym same) in
        on_left (send d m, with_body en (Some (record_of b))) (ap (put_back x host) (sym child) ∙ some_same (paused_by moved p host x d en r peek (Down s)) y e) none stands at

    pub back_left : (b : Record) → x.cell.result ≡ None → record_of b ≡ r → IsAt st p (with_entry x.column host (Some (with_body en (Some (record_of b))))) host
        → (looks : Bool) → stopped_by moved p host x d en r peek Back looks ≡ Some y → StandsFor c (send d (record { host = host_or (hold_at d.event.held (parent_of p)) host; path = parent_of p; letter = theory.Back })) → HasLeft c st p host None y
    back_left b none same at true e stands = absurd (none_not e)
    back_left b none same at false e stands =
        let m : Mail Fields = record { host = host_or (hold_at d.event.held (parent_of p)) host; path = parent_of p; letter = theory.Back } in
        on_left (send d m, with_body en (Some (record_of b))) (ap (λ u. put_back x host (send d m, with_body en (Some u))) same ∙ some_same (paused_by moved p host x d en r peek Back) y e) none stands at

  -- where the context departs
  over_away : (d : Desk Actor Fields) (en : Entry Fields) (o : EventResult) (m : Option (Path × ℕ)) (g : ℕ) → Some g ≡ away_from host m → over_by p x host d en o m ≡ over_there p x host d en o g
  over_away d en o None g e = absurd (some_not e)
  over_away d en o (Some m) g e = by_place (m.1 == host) e
    where
      by_place : (b : Bool) → Some g ≡ cond b None (Some m.1) → cond b (over_here x host d en o) (over_there p x host d en o m.1) ≡ over_there p x host d en o g
      by_place true f = absurd (some_not f)
      by_place false f = ap (over_there p x host d en o) (some_same m.1 g (sym f))

  pub away_left : (moved : EventResult → Option (Path × ℕ)) (d : Desk Actor Fields) (en : Entry Fields) (r : theory.Record Fields) (peek : Bool) (o : EventResult) (g : ℕ) (looks : Bool) → Some g ≡ away_from host (moved o) → looks ≡ false → stopped_by moved p host x d en r peek (Over o) looks ≡ Some y
      → StandsFor c (after_end (sent_off d p g (with_body en (Some r)))) → IsAt st p (column_left (with_entry x.column host (Some (with_body en (Some r)))) host g (suc en.moves)) host → HasLeft c st p host (Some o) y
  away_left moved d en r peek o g looks to off e stands at =
      let en' = with_body en (Some r) in
      let is : over_there p x host d en' o g ≡ y = sym (over_away d en' o (moved o) g to) ∙ some_same (over_by p x host d en' o (moved o)) y (ap (stopped_by moved p host x d en r peek (Over o)) (sym off) ∙ e) in
      record {
        desk = after_end (sent_off d p g en');
        stands = stands;
        cell = ap (λ (u : Part Actor Fields EventResult). u.cell) (sym is);
        there = subst (λ (u : Column Fields). IsAt st p u host) (ap (λ (u : Part Actor Fields EventResult). u.column) is)
            (is_at_as st p (column_left (with_entry x.column host (Some en')) host g (suc en.moves)) (column_left x.column host g (suc en.moves)) host (sym (set_here (with_entry x.column host (Some en')).store host None) ∙ set_here x.column.store host None) refl at);
      }
