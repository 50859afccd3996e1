-- Lines of labels have no line feed in them, so that a text has one line at its front.
use Rattle.std.proofs.Common.{◌≡◌, ◌<◌, ◌^◌, ℕ, List, [], ◌∷◌, ◌++◌, refl, sym, subst, ◌∙◌, lit<, arith}
use Rattle.std.specs.Fmt.{decimal}
use Rattle.wave_base.specs.declared.shape.Shape.{Shape}
use Rattle.wave_base.specs.Names.{HasNames}
use Rattle.wave_labels.specs.declared.label.Act.{Act}
use Rattle.wave_labels.specs.declared.label.Act.TheVariants as act
use Rattle.wave_labels.specs.declared.label.Label.{Label}
use Rattle.wave_text.specs.Splits.{HasNone, IsSplit}
use Rattle.wave_text.proofs.SplitLemmas.{none-append, one_split, nowhere}
use Rattle.journal_text.specs.Fits.{HasPath, HasNumbers, IsLabel}
use Rattle.journal_text.specs.LabelTexts.{words_text, act_words, label_words, line_text}
use Rattle.journal_text.specs.Verdicts.{HasNoLine}
use Rattle.journal_text.specs.inner.Lines.{IsNoLine}
use Rattle.journal_text.proofs.SolidLemmas.{IsSolid, solid-append, solid_has_none, decimal_solid, ticket_solid, mail_solid, path_solid}

-- ---- each word is solid

abbrev AreSolid : List (List ℕ) → Type 0
AreSolid [] = Unit {0}
AreSolid (w ∷ ws) = IsSolid w × AreSolid ws

spaced_has_none : (ws : List (List ℕ)) → AreSolid ws → HasNone 10 (words_text ws)
spaced_has_none [] h = refl
spaced_has_none (w ∷ []) h = solid_has_none 10 (lit< tt) w h.0
spaced_has_none (w ∷ v ∷ ws) h = none-append 10 w (32 ∷ words_text (v ∷ ws)) (solid_has_none 10 (lit< tt) w h.0) (spaced_has_none (v ∷ ws) h.1)

module _ (shape : Shape) (names : HasNames shape) where
  act_solid : (a : Act) → HasPath shape a → HasNumbers a → AreSolid (act_words shape a)
  act_solid (act.Admit t) p n = (refl, (ticket_solid t n, tt))
  act_solid (act.Queue m q) p n = (refl, (mail_solid m n.0, (path_solid shape names q p n.1, tt)))
  act_solid (act.Grant t q) p n = (refl, (ticket_solid t n.0, (path_solid shape names q p n.1, tt)))
  act_solid (act.Visit m q) p n = (refl, (mail_solid m n.0, (path_solid shape names q p n.1, tt)))
  act_solid (act.Start t q) p n = (refl, (ticket_solid t n.0, (path_solid shape names q p n.1, tt)))
  act_solid (act.Stop t q) p n = (refl, (ticket_solid t n.0, (path_solid shape names q p n.1, tt)))
  act_solid (act.Free m q) p n = (refl, (mail_solid m n.0, (path_solid shape names q p n.1, tt)))
  act_solid (act.Pass m q g) p n = (let wide : g.0 < 2 ^ 64 = omega (arith, n.2) in (refl, (mail_solid m n.0, (path_solid shape names q p n.1, (refl, (decimal_solid g.0 wide, tt))))))
  act_solid (act.Land m q) p n = (refl, (mail_solid m n.0, (path_solid shape names q p n.1, tt)))
  act_solid (act.Commit t) p n = (refl, (ticket_solid t n, tt))

  marked_solid : (mark n : ℕ) → IsSolid (mark ∷ []) → n < 2 ^ 8 → IsSolid (mark ∷ decimal n)
  marked_solid mark n h k =
      let wide : n < 2 ^ 64 = omega arith in
      solid-append (mark ∷ []) (decimal n) h (decimal_solid n wide)

  pub line_has_none : (i : ℕ) (l : Label) → i < 2 ^ 64 → IsLabel shape l → HasNone 10 (line_text shape i l)
  line_has_none i l below h =
      spaced_has_none (decimal i ∷ label_words shape l)
      (decimal_solid i below, (marked_solid 119 l.worker.0 refl h.worker, (marked_solid 104 l.host.0 refl h.host, act_solid l.act h.path h.numbers)))

  -- ---- the line at the front of a text

  pub no_feed : (i : ℕ) (text : List ℕ) → HasNone 10 text → HasNoLine shape i text
  no_feed i text none l rest h e = nowhere 10 (line_text shape i l) rest (subst (HasNone 10) e none)

  pub front_line : (i : ℕ) (text line after : List ℕ) → i < 2 ^ 64 → IsSplit 10 text line after → (l : Label) (rest : List ℕ) → IsLabel shape l → text ≡ line_text shape i l ++ 10 ∷ rest → (line ≡ line_text shape i l) × (after ≡ rest)
  front_line i text line after below s l rest h e = one_split 10 line after (line_text shape i l) rest s.first (line_has_none i l below h) (sym s.spelled ∙ e)

  pub no_line : (i : ℕ) (text line after : List ℕ) → i < 2 ^ 64 → IsSplit 10 text line after → IsNoLine shape i line → HasNoLine shape i text
  no_line i text line after below s none l rest h e = none l h (front_line i text line after below s l rest h e).0
