-- The parts of a line of numbers, and of a line of a place.
use Rattle.std.proofs.Common.{◌≡◌, ℕ, List, ◌++◌, Option, Some, refl, ◌∙◌, lit<}
use Rattle.std.specs.Prelude.{codes}
use Rattle.std.specs.Fmt.{decimal}
use Rattle.wave_base.specs.declared.finished.Place.{Place}
use Rattle.wave_base.specs.declared.shape.Shape.{Shape}
use Rattle.wave_text.specs.Splits.{HasNone, ArePartsAt}
use Rattle.path_text.specs.PathTexts.{path_text}
use Rattle.path_text.specs.PlaceTexts.{place_text}
use Rattle.checkpoint_store.specs.declared.numbers.Numbers.{Numbers}
use Rattle.checkpoint_store.specs.CheckpointTexts.{numbers_text}
use Rattle.checkpoint_store.specs.Points.{AreInRange}
use Rattle.checkpoint_store.proofs.LineLemmas.{number_none, wide_hosts, wide_lines, place_spelled}

pub record AreRead (n : Numbers) (hosts lines next : List ℕ) : Type 0 where
  pub hosts_are : hosts ≡ decimal n.hosts
  pub lines_are : lines ≡ decimal n.lines
  pub next_is : next ≡ decimal n.next

pub numbers_read : (n : Numbers) → AreInRange n → (line a r1 hosts r2 b r3 lines r4 c next : List ℕ) → ArePartsAt 32 line a r1 → ArePartsAt 32 r1 hosts r2 → ArePartsAt 32 r2 b r3 → ArePartsAt 32 r3 lines r4 → ArePartsAt 32 r4 c next
    → line ≡ numbers_text n → AreRead n hosts lines next
numbers_read n h line a r1 hosts r2 b r3 lines r4 c next p1 p2 p3 p4 p5 e =
    let one = p1.cut (codes "hosts") (decimal n.hosts ++ (codes " lines " ++ (decimal n.lines ++ (codes " next " ++ decimal n.next)))) refl e in
    let two = p2.cut (decimal n.hosts) (codes "lines " ++ (decimal n.lines ++ (codes " next " ++ decimal n.next))) (number_none 32 n.hosts (lit< tt) (wide_hosts n h)) one.1 in
    let three = p3.cut (codes "lines") (decimal n.lines ++ (codes " next " ++ decimal n.next)) refl two.1 in
    let four = p4.cut (decimal n.lines) (codes "next " ++ decimal n.next) (number_none 32 n.lines (lit< tt) (wide_lines n h)) three.1 in
    let five = p5.cut (codes "next") (decimal n.next) refl four.1 in
    record { hosts_are = two.0; lines_are = four.0; next_is = five.1 }

pub host_read : (shape : Shape) (x : Place) (line a rest path host : List ℕ) → HasNone 32 (path_text shape x.path) → ArePartsAt 32 line a rest → ArePartsAt 32 rest path host → line ≡ place_text shape x → host ≡ decimal x.host.0
host_read shape x line a rest path host none p q e =
    let one = p.cut (codes "place") (path_text shape x.path ++ (codes " " ++ decimal x.host.0)) refl (e ∙ place_spelled shape x) in
    (q.cut (path_text shape x.path) (decimal x.host.0) none one.1).1

-- what is found is what the numbers are
pub numbers_found : (h l t : ℕ) (n : Numbers) → h ≡ n.hosts → l ≡ n.lines → t ≡ n.next → ◌≡◌ {A = Option Numbers} (Some (record { hosts = h; lines = l; next = t })) (Some n)
numbers_found h l t n a b c = λ i. Some (record { hosts = a i; lines = b i; next = c i })
