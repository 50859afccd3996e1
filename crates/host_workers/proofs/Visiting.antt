-- What a pass knows after a visit of a board.
use Rattle.std.proofs.Common.{◌≡◌, ◌∙◌, ℕ, List, [], ◌∷◌, ◌++◌, sym, ap, subst, append-nil}
use Rattle.std.specs.Prelude.{All}
use Rattle.std.proofs.lemmas.List.Elements.{All-nil, All-cons}
use Rattle.kept_lock.specs.declared.view.Known.{Known}
use Rattle.kept_lock.specs.History.{Adds, StartsWith, entries_of, later_than}
use Rattle.kept_lock.specs.Knowing.{Agrees, pass_inside, left_at}
use Rattle.kept_lock.proofs.Entries.{grown_own, later_than-append, starts_longer}
use Rattle.wave_board.specs.declared.board.Board.{Board}
use Rattle.wave_board.specs.declared.trail.Trail.{Trail}
use Rattle.wave_board.specs.declared.origin.Origin.{Origin}
use Rattle.wave_board.specs.Boards.{StandsFor, history_of, owner_of}
use Rattle.host_workers.specs.Passes.{GoesOn}

-- a board that a pass finds: it stands for the name, and its history agrees with the pass
pub record Finds (o : Origin) (k : Known Trail) (y : Board) : Type 0 where
  pub stands_for_name : StandsFor y o
  pub agrees : Agrees owner_of k (history_of y)

-- the pass after a visit that added these entries
pub record Left (k k' : Known Trail) (z : Board) (more : List Trail) : Type 0 where
  pub number : k'.number ≡ k.number
  pub seen : k'.seen ≡ history_of z
  pub made : k'.made ≡ k.made ++ more
  pub on : GoesOn k k'

pub left : (k k' : Known Trail) (y z : Board) (more : List Trail) → k' ≡ left_at (pass_inside k (history_of y)) (history_of z) → history_of z ≡ history_of y ++ more → StartsWith (history_of y) k.seen
    → Left k k' z more
left k k' y z more e h s =
    let seen : k'.seen ≡ history_of z = ap (λ (x : Known Trail). x.seen) e in
    let number : k'.number ≡ k.number = ap (λ (x : Known Trail). x.number) e in
    record {
      number = number;
      seen = seen;
      made = ap (λ (x : Known Trail). x.made) e ∙ ap (λ l. k.made ++ later_than (history_of y) l) h ∙ ap (λ l. k.made ++ l) (later_than-append (history_of y) more);
      on = record { number = number; seen = subst (λ l. StartsWith l k.seen) (sym (seen ∙ h)) (starts_longer (history_of y) more k.seen s) };
    }

-- nothing was added
pub left_same : (k k' : Known Trail) (y z : Board) → k' ≡ left_at (pass_inside k (history_of y)) (history_of z) → history_of z ≡ history_of y → StartsWith (history_of y) k.seen → Left k k' z []
left_same k k' y z e h s = left k k' y z [] e (h ∙ sym (append-nil (history_of y))) s

pub made_same : (k k' : Known Trail) (z : Board) → Left k k' z [] → k'.made ≡ k.made
made_same k k' z l = l.made ∙ append-nil k.made

-- the history has just the pass's own entries, still
pub left_owns : (k k' : Known Trail) (y z : Board) (more : List Trail) → Left k k' z more → history_of z ≡ history_of y ++ more → Agrees owner_of k (history_of y) → All (λ e. owner_of e ≡ k.number) more
    → entries_of owner_of k'.number (history_of z) ≡ k'.made
left_owns k k' y z more l h a own =
    ap (λ n. entries_of owner_of n (history_of z)) l.number
    ∙ ap (entries_of owner_of k.number) h
    ∙ grown_own owner_of k.number (history_of y) more own
    ∙ ap (λ z. z ++ more) a.1
    ∙ sym l.made

pub adds_one : (n : ℕ) (before after : List Trail) (t : Trail) → after ≡ before ++ t ∷ [] → owner_of t ≡ n → Adds owner_of n before after
adds_one n before after t h o = (t ∷ [], h, All-cons (λ e. owner_of e ≡ n) t [] o (All-nil (λ e. owner_of e ≡ n)))

pub adds_none : (n : ℕ) (before after : List Trail) → after ≡ before → Adds owner_of n before after
adds_none n before after h = ([], h ∙ sym (append-nil before), All-nil (λ e. owner_of e ≡ n))

-- one going on and then another
pub goes_on : (k mid k' : Known Trail) → GoesOn k mid → GoesOn mid k' → GoesOn k k'
goes_on k mid k' first second = record {
  number = second.number ∙ first.number;
  seen = subst (λ ts. StartsWith ts k.seen) (sym second.seen.1) (starts_longer mid.seen second.seen.0 k.seen first.seen);
}
