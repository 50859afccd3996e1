-- The words of a mail that passes.
use Rattle.std.proofs.Common.{◌≡◌, ℕ, List, [], ◌∷◌, Some, true, refl, lit<}
use Rattle.std.specs.Prelude.{codes}
use Rattle.std.specs.Fmt.{decimal}
use Rattle.wave_base.specs.declared.numbers.Host.{Host}
use Rattle.wave_base.specs.declared.path.Path.{Path}
use Rattle.wave_base.specs.declared.shape.Shape.{Shape}
use Rattle.wave_base.specs.Names.{HasNames}
use Rattle.wave_base.specs.Shapes.{is_path}
use Rattle.wave_labels.specs.declared.label.Act.{Act}
use Rattle.wave_labels.specs.declared.label.Act.TheVariants as act
use Rattle.wave_labels.specs.declared.label.MailId.{MailId}
use Rattle.path_text.specs.PathTexts.{path_text}
use Rattle.journal_text.specs.declared.verb.Verb.TheVariants.{Pass}
use Rattle.journal_text.specs.Fits.{IsMail}
use Rattle.path_text.specs.Found.{HasKeys}
use Rattle.journal_text.specs.LabelTexts.{words_text, mail_text}
use Rattle.journal_text.specs.inner.Parts.{IsWordOf}
use Rattle.journal_text.specs.inner.Verbs.{verb_in}
use Rattle.journal_text.proofs.SolidLemmas.{solid_has_none, mail_solid, path_solid}
use Rattle.journal_text.proofs.WordLemmas.{two_words}

-- no other act has the word
pub only_pass : (a : Act) (Q : Act → Type 0) → verb_in a ≡ Pass → ((m : MailId) (p : Path) (g : Host) → Q (act.Pass m p g)) → Q a
only_pass (act.Pass m p g) Q v f = f m p g
only_pass a Q v f = cc

pub record AreWords (shape : Shape) (m : MailId) (p : Path) (g : Host) (w1 w2 r3 : List ℕ) : Type 0 where
  pub mail : w1 ≡ mail_text m
  pub path : w2 ≡ path_text shape p
  pub host : r3 ≡ decimal g.0

module _ (shape : Shape) (names : HasNames shape) (text w1 r1 w2 r2 w3 r3 : List ℕ) (first : IsWordOf text w1 r1) (second : IsWordOf r1 w2 r2) (third : IsWordOf r2 w3 r3) where
  pub pass_words : (m : MailId) (p : Path) (g : Host) → is_path shape p ≡ true → IsMail m → HasKeys p
      → text ≡ words_text (mail_text m ∷ path_text shape p ∷ codes "to" ∷ decimal g.0 ∷ []) → AreWords shape m p g w1 w2 r3
  pass_words m p g hp hm hk e =
      let two = two_words text w1 r1 w2 r2 first second (mail_text m) (path_text shape p) (codes "to" ∷ decimal g.0 ∷ [])
      (solid_has_none 32 (lit< tt) (mail_text m) (mail_solid m hm)) (solid_has_none 32 (lit< tt) (path_text shape p) (path_solid shape names p hp hk)) e in
      let last = third (codes "to") (decimal g.0 ∷ []) refl two.3 in
      record { mail = two.0; path = two.2; host = last.1 }

pub pass_found : (m x : MailId) (p y : Path) (g z : Host) → m ≡ x → p ≡ y → g ≡ z → Some (act.Pass m p g) ≡ Some (act.Pass x y z)
pass_found m x p y g z e f h = λ i. Some (act.Pass (e i) (f i) (h i))
