-- Laws of bytes that are held back before a sink.
use Rattle.std.proofs.Common.{◌≡◌, Result, Ok, Err, OnOk, OnErr, ℕ, ◌+◌, List, [], ◌++◌, length, take, drop, refl, sym, ap, subst, ◌∙◌, append_assoc, append-nil, None, Some, Option}
use Rattle.std.proofs.lemmas.List.{drop-drop, take-append-drop, take_at}
use Rattle.std.specs.Io.KnownBytes.{Appends, Keeps}
use Rattle.wave_io.specs.Held.{Takes, TakesFront}
use Rattle.wave_io.specs.Streams.{AppendsFront}

pub appends_none : (a : Option (List ℕ)) → Appends a a []
appends_none None = tt
appends_none (Some xs) = sym (append-nil xs)

-- kept bytes grow by what comes next
pub keeps_appends : (a b c : Option (List ℕ)) (xs : List ℕ) → Appends a b xs → Keeps b c → Appends a c xs
keeps_appends None b c xs p q = tt
keeps_appends (Some a) None c xs p q = absurd p
keeps_appends (Some a) (Some b) None xs p q = absurd q
keeps_appends (Some a) (Some b) (Some c) xs p q = q ∙ p

pub appends_both : (a b c : Option (List ℕ)) (xs ys : List ℕ) → Appends a b xs → Appends b c ys → Appends a c (xs ++ ys)
appends_both None b c xs ys p q = tt
appends_both (Some a) None c xs ys p q = absurd p
appends_both (Some a) (Some b) None xs ys p q = absurd q
appends_both (Some a) (Some b) (Some c) xs ys p q = q ∙ ap (λ z. z ++ ys) p ∙ append_assoc a xs ys

-- ---- one step

-- the bytes are held too
pub takes_held : (h h' : List ℕ) (a : Option (List ℕ)) (xs : List ℕ) → h' ≡ h ++ xs → Takes h h' a a xs
takes_held h h' a xs e = record { reached = []; appended = appends_none a; rest = e }

-- all that was held was written
pub takes_all : (h h' : List ℕ) (a b : Option (List ℕ)) → Appends a b h → h' ≡ [] → Takes h h' a b []
takes_all h h' a b p e = record { reached = h; appended = p; rest = ap (λ z. h ++ z) e }

-- a front of what was held was written
pub takes_some : (bytes : List ℕ) (sent n : ℕ) (a b : Option (List ℕ)) → Appends a b (take n (drop sent bytes)) → Takes (drop sent bytes) (drop (sent + n) bytes) a b []
takes_some bytes sent n a b p =
    let h : List ℕ = drop sent bytes in
    record {
      reached = take n h;
      appended = p;
      rest = ap (λ z. take n h ++ z) (sym (drop-drop n sent bytes)) ∙ take-append-drop n h ∙ sym (append-nil h);
    }

-- where nothing is held the bytes are written
pub takes_written : (h h' : List ℕ) (a b : Option (List ℕ)) (xs : List ℕ) → h ≡ [] → h' ≡ h → Appends a b xs → Takes h h' a b xs
takes_written h h' a b xs e f p = record { reached = xs; appended = p; rest = ap (λ z. xs ++ z) (f ∙ e) ∙ append-nil xs ∙ ap (λ z. z ++ xs) (sym e) }

-- ---- steps in turn

pub takes_more : (h h' h'' : List ℕ) (a b c : Option (List ℕ)) (xs ys : List ℕ) → Takes h h' a b xs → Takes h' h'' b c ys → Takes h h'' a c (xs ++ ys)
takes_more h h' h'' a b c xs ys p q = record {
  reached = p.reached ++ q.reached;
  appended = appends_both a b c p.reached q.reached p.appended q.appended;
  rest = append_assoc p.reached q.reached h''
      ∙ ap (λ z. p.reached ++ z) q.rest
      ∙ sym (append_assoc p.reached h' ys)
      ∙ ap (λ z. z ++ ys) p.rest
      ∙ append_assoc h xs ys;
}

-- what was held was written, and then the bytes
pub flushed_written : (h h' h'' : List ℕ) (a b c : Option (List ℕ)) (xs : List ℕ) → Takes h h' a b [] → h' ≡ [] → h'' ≡ h' → Appends b c xs → Takes h h'' a c xs
flushed_written h h' h'' a b c xs p e f q = takes_more h h' h'' a b c [] xs p (takes_written h' h'' b c xs e f q)

-- what was held was written, and then a front of the bytes
pub flushed_front : (h h' h'' : List ℕ) (a b c : Option (List ℕ)) (xs : List ℕ) → Takes h h' a b [] → h' ≡ [] → h'' ≡ h' → AppendsFront b c xs → TakesFront h h'' a c xs
flushed_front h h' h'' a b c xs p e f q = (q.0, flushed_written h h' h'' a b c (take q.0 xs) p e f q.1)

-- what was held was written, and then the bytes are held
pub flushed_held : (h h' h'' : List ℕ) (a b : Option (List ℕ)) (xs : List ℕ) → Takes h h' a b [] → h'' ≡ h' ++ xs → Takes h h'' a b xs
flushed_held h h' h'' a b xs p e = takes_more h h' h'' a b b [] xs p (takes_held h' h'' b xs e)

-- ---- what reached the sink

-- all, where nothing is held any more
pub all_reached : (h : List ℕ) (a b : Option (List ℕ)) (xs : List ℕ) → Takes [] h a b xs → h ≡ [] → Appends a b xs
all_reached h a b xs t e = subst (Appends a b) (sym (append-nil t.reached) ∙ ap (λ z. t.reached ++ z) (sym e) ∙ t.rest) t.appended

-- and else a front, also of what goes on behind it
pub front_reached : (h : List ℕ) (a b : Option (List ℕ)) (xs ys : List ℕ) → Takes [] h a b xs → AppendsFront a b (xs ++ ys)
front_reached h a b xs ys t =
    let whole : t.reached ++ (h ++ ys) ≡ xs ++ ys = sym (append_assoc t.reached h ys) ∙ ap (λ z. z ++ ys) t.rest in
    (length t.reached, subst (Appends a b) (sym (take_at t.reached (h ++ ys) (length t.reached) refl) ∙ ap (take (length t.reached)) whole) t.appended)

-- ---- what follows at an answer

pub ok_by : {T E P Q : Type 0} (r : Result T E) → (P → Q) → OnOk r P → OnOk r Q
ok_by (Ok x) f p = f p
ok_by (Err e) f p = tt

pub err_by : {T E P Q : Type 0} (r : Result T E) → (P → Q) → OnErr r P → OnErr r Q
err_by (Ok x) f p = tt
err_by (Err e) f p = f p
