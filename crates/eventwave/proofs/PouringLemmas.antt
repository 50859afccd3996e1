-- What is written behind the lines of a run, part by part.
use Rattle.std.proofs.Common.{◌≡◌, ◌∙◌, ℕ, suc, All, Some, map, slice_get, ◌+◌, ◌<◌, List, [], ◌∷◌, ◌++◌, length, drop, get_or, Option, ap, subst, sym, append_assoc, drop-cons, arith}
use Rattle.std.proofs.lemmas.Option.{get_or_from_slice_get, slice_get_within}
use Rattle.std.specs.List.{concat}
use Rattle.wave_base.specs.declared.finished.Finished.{Finished}
use Rattle.wave_base.specs.declared.finished.Place.{Place}
use Rattle.wave_base.specs.declared.shape.Shape.{Shape}
use Rattle.std.specs.Io.KnownBytes.{Appends}
use Rattle.wave_io.specs.Streams.{AppendsFront}
use Rattle.wave_labels.specs.declared.label.Label.{Label}
use Rattle.command_words.specs.declared.command.Places.{Places}
use Rattle.journal_text.specs.JournalTexts.{head_text, journal_text, labels_text}
use Rattle.journal_text.specs.LabelTexts.{line_text}
use Rattle.listing_out.specs.Listing.{end_lines, last_ticket, places_of}
use Rattle.wave_labels.specs.Labels.{label_of}
use Rattle.plan_actors.specs.Plans as plans
use Rattle.wave_base.specs.declared.start.Start.{Start}
use Rattle.command_words.specs.declared.command.Crew.{Crew}
use Rattle.journal_text.specs.Fits.{HasPath}
use Rattle.due_parts.specs.Accepted.{HasCode}
use Rattle.wave_effects.specs.Machines.{IsFinishedRun}
use Rattle.due_parts.specs.Told.{is_listed}
use Rattle.due_parts.specs.declared.telling.Telling.{Telling}
use Rattle.due_parts.specs.declared.telling.Telling.TheVariants.{Traces}
use Rattle.eventwave.specs.declared.made.Made.{Made}
use Rattle.eventwave.specs.inner.Pouring.{HasJournal, end_text, journal_behind, rest_text}
use Rattle.eventwave.proofs.MadeLemmas.{front_behind, front_on}

pub end_same : (shape : Shape) (first : ℕ) (done : Finished) (places : Places) (listed : Option (List Place)) (last : ℕ) → listed ≡ places_of done (is_listed places) → last ≡ last_ticket first done
    → concat (end_lines shape listed last) ≡ end_text places shape first done
end_same shape first done places listed last l e = λ i. concat (end_lines shape (l i) (e i))

-- ---- the journal

module _ (shape : Shape) where
  -- its first line, and what stands behind it
  pub head_first : (labels : List Label) (head : List ℕ) → head ≡ head_text (length labels) ++ 10 ∷ [] → journal_text shape labels ≡ head ++ labels_text shape (0 + 1) (drop 0 labels)
  head_first labels head e = sym (ap (λ z. z ++ labels_text shape 1 labels) e ∙ append_assoc (head_text (length labels)) (10 ∷ []) (labels_text shape 1 labels))

  -- the next line, and what stands behind it
  pub label_next : (labels : List Label) (i : ℕ) (l : Label) (line : List ℕ) → slice_get labels i ≡ Some l → line ≡ line_text shape (i + 1) l ++ 10 ∷ []
      → labels_text shape (i + 1) (drop i labels) ≡ line ++ labels_text shape (i + 1 + 1) (drop (i + 1) labels)
  label_next labels i l line found e =
      let next : i + 1 ≡ suc i = omega arith in
      let below : i < length labels = slice_get_within labels i l found in
      let at : l ≡ get_or labels i l = sym (get_or_from_slice_get labels i l l found) in
      let rest : List ℕ = labels_text shape (i + 1 + 1) (drop (i + 1) labels) in
      let front : drop i labels ≡ l ∷ drop (i + 1) labels = drop-cons labels i l below ∙ (λ j. sym at j ∷ drop (sym next j) labels) in
      ap (labels_text shape (i + 1)) front ∙ sym (ap (λ z. z ++ rest) e ∙ append_assoc (line_text shape (i + 1) l) (10 ∷ []) rest)

  -- the path of a label among those that have paths
  pub path_at : (labels : List Label) (i : ℕ) (l : Label) → All (λ (l : Label). HasPath shape l.act) labels → slice_get labels i ≡ Some l → HasPath shape l.act
  path_at labels i l all found = subst (λ (x : Label). HasPath shape x.act) (get_or_from_slice_get labels i l l found) (all i l (slice_get_within labels i l found))

-- ---- what stands behind the lines of a trace

-- what is known of the contexts that a finished run names
abbrev pub RunsHavePaths : Type 0
RunsHavePaths = (plan : plans.Plan) (start : Start) (journal : List Label) → HasCode plan → plans.FitsStart plan start → IsFinishedRun plan start (map label_of journal) → All (λ (l : Label). HasPath plan.program.shape l.act) journal

one_journal : (xs ys : List Label) → ◌≡◌ {A = Option (List Label)} (Some xs) (Some ys) → xs ≡ ys
one_journal xs ys e = cc

pub journal_paths : (plan : plans.Plan) (start : Start) (journal : Option (List Label)) (found : List Label) → RunsHavePaths → HasJournal plan start journal → journal ≡ Some found → All (λ (l : Label). HasPath plan.program.shape l.act) found
journal_paths plan start journal found paths h is =
    subst (All (λ (l : Label). HasPath plan.program.shape l.act)) (one_journal h.labels found (sym h.labels_are ∙ is)) (paths plan start h.labels h.code h.begins h.run)

module _ (telling : Telling) (places : Places) (crew : Crew) (shape shape' : Shape) (first : ℕ) (made : Made) (is : telling ≡ Traces places crew) (same : shape' ≡ shape) where
  -- where the end of the listing broke off
  pub traces_front : (old new : Option (List ℕ)) → AppendsFront old new (end_text places shape' first made.done) → AppendsFront old new (rest_text telling shape first made)
  traces_front old new front =
      subst (λ t. AppendsFront old new (rest_text t shape first made)) (sym is)
      (front_on old new (end_text places shape first made.done) (journal_behind shape made.journal) (subst (λ s. AppendsFront old new (end_text places s first made.done)) same front))

  -- and where the journal behind it did
  pub traces_behind : (journal : List Label) (old mid new : Option (List ℕ)) → made.journal ≡ Some journal → Appends old mid (end_text places shape' first made.done) → AppendsFront mid new (journal_text shape' journal)
      → AppendsFront old new (rest_text telling shape first made)
  traces_behind journal old mid new found whole front =
      subst (λ t. AppendsFront old new (rest_text t shape first made)) (sym is)
      (front_behind old mid new (end_text places shape first made.done) (journal_behind shape made.journal) (subst (λ s. Appends old mid (end_text places s first made.done)) same whole)
      (subst (AppendsFront mid new) (sym (ap (journal_behind shape) found)) (subst (λ s. AppendsFront mid new (journal_text s journal)) same front)))
