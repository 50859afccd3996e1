-- How far bytes were written onto a sink.
use Rattle.std.proofs.Common.{◌≡◌, Result, Ok, Err, OnErr, ℕ, zero, suc, List, [], ◌∷◌, ◌++◌, take, drop, Option, None, Some, refl, sym, ap, subst, ◌∙◌, append_assoc, append-nil}
use Rattle.std.proofs.lemmas.List.{take-append-drop}
use Rattle.std.specs.Io.KnownBytes.{Appends}
use Rattle.wave_io.specs.Held.{Takes, TakesFront}
use Rattle.wave_io.specs.Streams.{AppendsFront}
use Rattle.wave_io.proofs.HeldLemmas.{appends_both, takes_held, takes_more, all_reached, front_reached}

-- of all bytes these are left
pub record IsWritten (old new : Option (List ℕ)) (left all : List ℕ) : Type 0 where
  pub bytes : List ℕ
  pub appended : Appends old new bytes
  pub whole : bytes ++ left ≡ all

pub nothing_written : (old : Option (List ℕ)) (all : List ℕ) → IsWritten old old all all
nothing_written None all = record { bytes = []; appended = tt; whole = refl }
nothing_written (Some xs) all = record { bytes = []; appended = sym (append-nil xs); whole = refl }

-- the next of them are written
pub more_written : (old mid new : Option (List ℕ)) (next left left' all : List ℕ) → IsWritten old mid left all → Appends mid new next → left ≡ next ++ left' → IsWritten old new left' all
more_written old mid new next left left' all w a e = record {
  bytes = w.bytes ++ next;
  appended = appends_both old mid new w.bytes next w.appended a;
  whole = append_assoc w.bytes next left' ∙ ap (λ z. w.bytes ++ z) (sym e) ∙ w.whole;
}

pub all_written : (old new : Option (List ℕ)) (left all : List ℕ) → IsWritten old new left all → left ≡ [] → Appends old new all
all_written old new left all w e = subst (Appends old new) (sym (append-nil w.bytes) ∙ ap (λ z. w.bytes ++ z) (sym e) ∙ w.whole) w.appended

-- ---- a front of them

front_of_two : (n : ℕ) (xs ys : List ℕ) → (k : ℕ) × (take k (xs ++ ys) ≡ take n xs)
front_of_two zero xs ys = (0, refl)
front_of_two (suc n) [] ys = (0, refl)
front_of_two (suc n) (x ∷ xs) ys = (let f = front_of_two n xs ys in (suc f.0, ap (λ z. x ∷ z) f.1))

behind_first : (xs ys : List ℕ) (n : ℕ) → (k : ℕ) × (take k (xs ++ ys) ≡ xs ++ take n ys)
behind_first [] ys n = (n, refl)
behind_first (x ∷ xs) ys n = (let f = behind_first xs ys n in (suc f.0, ap (λ z. x ∷ z) f.1))

pub front_written : (old mid new : Option (List ℕ)) (next left left' all : List ℕ) → IsWritten old mid left all → AppendsFront mid new next → left ≡ next ++ left' → AppendsFront old new all
front_written old mid new next left left' all w a e =
    let f = front_of_two a.0 next left' in
    let b = behind_first w.bytes left f.0 in
    (b.0, subst (Appends old new) (ap (λ z. w.bytes ++ z) (sym f.1 ∙ ap (take f.0) (sym e)) ∙ sym b.1 ∙ ap (take b.0) w.whole) (appends_both old mid new w.bytes (take a.0 next) w.appended a.1))

-- what is written so far is a front
pub written_front : (old new : Option (List ℕ)) (left all : List ℕ) → IsWritten old new left all → AppendsFront old new all
written_front old new left all w =
    let b = behind_first w.bytes left 0 in
    (b.0, subst (Appends old new) (sym (append-nil w.bytes) ∙ sym b.1 ∙ ap (take b.0) w.whole) w.appended)

-- ---- the same where bytes are held back before the sink

-- of all bytes these are left
pub record IsTaken (held held' : List ℕ) (old new : Option (List ℕ)) (left all : List ℕ) : Type 0 where
  pub bytes : List ℕ
  pub taken : Takes held held' old new bytes
  pub whole : bytes ++ left ≡ all

pub nothing_taken : (held : List ℕ) (old : Option (List ℕ)) (all : List ℕ) → IsTaken held held old old all all
nothing_taken held old all = record { bytes = []; taken = takes_held held held old [] (sym (append-nil held)); whole = refl }

pub begins_taken : (old : Option (List ℕ)) (held left all : List ℕ) → held ≡ [] → left ≡ all → IsTaken [] held old old left all
begins_taken old held left all e f = record { bytes = []; taken = takes_held [] held old [] e; whole = f }

-- the next of them are taken
pub more_taken : (held held' held'' : List ℕ) (old mid new : Option (List ℕ)) (next left left' all : List ℕ) → IsTaken held held' old mid left all → Takes held' held'' mid new next → left ≡ next ++ left' → IsTaken held held'' old new left' all
more_taken held held' held'' old mid new next left left' all w t e = record {
  bytes = w.bytes ++ next;
  taken = takes_more held held' held'' old mid new w.bytes next w.taken t;
  whole = append_assoc w.bytes next left' ∙ ap (λ z. w.bytes ++ z) (sym e) ∙ w.whole;
}

pub all_taken : (held held' : List ℕ) (old new : Option (List ℕ)) (left all : List ℕ) → IsTaken held held' old new left all → left ≡ [] → Takes held held' old new all
all_taken held held' old new left all w e = subst (Takes held held' old new) (sym (append-nil w.bytes) ∙ ap (λ z. w.bytes ++ z) (sym e) ∙ w.whole) w.taken

-- a front of the next is taken
pub front_taken : (held held' held'' : List ℕ) (old mid new : Option (List ℕ)) (next left left' all : List ℕ) → IsTaken held held' old mid left all → TakesFront held' held'' mid new next → left ≡ next ++ left' → TakesFront held held'' old new all
front_taken held held' held'' old mid new next left left' all w a e =
    let f = front_of_two a.0 next left' in
    let b = behind_first w.bytes left f.0 in
    (b.0, subst (Takes held held'' old new) (ap (λ z. w.bytes ++ z) (sym f.1 ∙ ap (take f.0) (sym e)) ∙ sym b.1 ∙ ap (take b.0) w.whole) (takes_more held held' held'' old mid new w.bytes (take a.0 next) w.taken a.1))

-- where nothing was held before, a front of what was taken reached the sink
pub taken_reached : (held : List ℕ) (old new : Option (List ℕ)) (left all : List ℕ) → IsTaken [] held old new left all → AppendsFront old new all
taken_reached held old new left all w = subst (AppendsFront old new) w.whole (front_reached held old new w.bytes left w.taken)

pub front_of_all : (held : List ℕ) (old new : Option (List ℕ)) (all : List ℕ) → TakesFront [] held old new all → AppendsFront old new all
front_of_all held old new all t = subst (AppendsFront old new) (take-append-drop t.0 all) (front_reached held old new (take t.0 all) (drop t.0 all) t.1)

-- and at the end all of it
pub flushed_all : (held held' : List ℕ) (old mid new : Option (List ℕ)) (left all : List ℕ) → IsTaken [] held old mid left all → left ≡ [] → Takes held held' mid new [] → held' ≡ [] → Appends old new all
flushed_all held held' old mid new left all w e t f =
    subst (Appends old new) (append-nil all) (all_reached held' old new (all ++ []) (takes_more [] held held' old mid new all [] (all_taken [] held old mid left all w e) t) f)

pub flushed_front : (held held' : List ℕ) (old mid new : Option (List ℕ)) (left all : List ℕ) → IsTaken [] held old mid left all → Takes held held' mid new [] → AppendsFront old new all
flushed_front held held' old mid new left all w t =
    taken_reached held' old new left all (more_taken [] held held' old mid new [] left left all w t refl)

-- ---- what follows at an error

pub on_err : {T E P : Type 0} (r : Result T E) → P → OnErr r P
on_err (Ok x) p = tt
on_err (Err e) p = p
