-- Laws of the equality of labels: it decides whether they are the same.
use Rattle.std.specs.Prelude.{◌≡◌, Bool, true, false, ◌&&◌, ◌==◌}
use Rattle.std.specs.Bool.{Decides}
use Rattle.std.specs.Cmp.{IsEquivalence}
use Rattle.std.proofs.Common.{refl, ap, sym, subst}
use Rattle.std.proofs.lemmas.Bool.{eqb-true}
use Rattle.std.proofs.lemmas.Cmp.{nat_eq_equiv}
use Rattle.wave_base.specs.declared.numbers.Ticket.{Ticket}
use Rattle.wave_base.specs.declared.numbers.Host.{Host}
use Rattle.wave_base.specs.declared.path.Path.{Path}
use Rattle.wave_base.specs.Paths.{path_eq}
use Rattle.wave_base.specs.PathLaws.{path_eq_decides, path_eq_equiv}
use Rattle.wave_labels.specs.declared.label.Act.{Act}
use Rattle.wave_labels.specs.declared.label.Act.TheVariants.{Admit, Queue, Grant, Visit, Start, Stop, Free, Pass, Land, Commit}
use Rattle.wave_labels.specs.declared.label.Label.{Label}
use Rattle.wave_labels.specs.declared.label.MailId.{MailId}
use Rattle.wave_labels.specs.Labels.{mail_eq, act_eq, label_eq}

first_of : (a b : Bool) → (a && b) ≡ true → a ≡ true
first_of true b e = refl
first_of false b e = e

second_of : (a b : Bool) → (a && b) ≡ true → b ≡ true
second_of true b e = e
second_of false b e = cc

both : (a b : Bool) → a ≡ true → b ≡ true → (a && b) ≡ true
both a b x y = (λ i. x i && y i)

alike : (a b : Bool) → (a ≡ true → b ≡ true) → (b ≡ true → a ≡ true) → a ≡ b
alike true true f g = refl
alike true false f g = sym (f refl)
alike false true f g = g refl
alike false false f g = refl

-- a test that decides whether two are the same is an equivalence
equiv_of : {K : Type 0} (E : K → K → Bool) → ((a b : K) → E a b ≡ true → a ≡ b) → ((a : K) → E a a ≡ true) → IsEquivalence E
equiv_of E same itself = record {
  refl = itself;
  symm = λ x y. alike (E x y) (E y x) (λ e. subst (λ z. E z x ≡ true) (same x y e) (itself x)) (λ e. subst (λ z. E z y ≡ true) (same y x e) (itself y));
  congr = λ x y z e. ap (λ u. E u z) (same x y e);
}

same_ticket : (t u : Ticket) → (t.0 == u.0) ≡ true → t ≡ u
same_ticket t u e = λ i. record { 0 = eqb-true t.0 u.0 e i }

same_host : (t u : Host) → (t.0 == u.0) ≡ true → t ≡ u
same_host t u e = λ i. record { 0 = eqb-true t.0 u.0 e i }

same_path : (p q : Path) → path_eq p q ≡ true → p ≡ q
same_path p q e = (path_eq_decides p q).0 e

pub mail_same : (m n : MailId) → mail_eq m n ≡ true → m ≡ n
mail_same m n e = λ i. record { ticket = same_ticket m.ticket n.ticket (first_of (m.ticket.0 == n.ticket.0) (m.number == n.number) e) i; number = eqb-true m.number n.number (second_of (m.ticket.0 == n.ticket.0) (m.number == n.number) e) i }

pub mail_itself : (m : MailId) → mail_eq m m ≡ true
mail_itself m = both (m.ticket.0 == m.ticket.0) (m.number == m.number) (nat_eq_equiv.refl m.ticket.0) (nat_eq_equiv.refl m.number)

with_path : (f : MailId → Path → Act) (m n : MailId) (p q : Path) → (mail_eq m n && path_eq p q) ≡ true → f m p ≡ f n q
with_path f m n p q e = λ i. f (mail_same m n (first_of (mail_eq m n) (path_eq p q) e) i) (same_path p q (second_of (mail_eq m n) (path_eq p q) e) i)

at_path : (f : Ticket → Path → Act) (t u : Ticket) (p q : Path) → ((t.0 == u.0) && path_eq p q) ≡ true → f t p ≡ f u q
at_path f t u p q e = λ i. f (same_ticket t u (first_of (t.0 == u.0) (path_eq p q) e) i) (same_path p q (second_of (t.0 == u.0) (path_eq p q) e) i)

passed : (m n : MailId) (p q : Path) (g h : Host) → (mail_eq m n && (path_eq p q && (g.0 == h.0))) ≡ true → Pass m p g ≡ Pass n q h
passed m n p q g h e =
    let rest = second_of (mail_eq m n) (path_eq p q && (g.0 == h.0)) e in
    λ i. Pass (mail_same m n (first_of (mail_eq m n) (path_eq p q && (g.0 == h.0)) e) i) (same_path p q (first_of (path_eq p q) (g.0 == h.0) rest) i) (same_host g h (second_of (path_eq p q) (g.0 == h.0) rest) i)

pub act_same : (a b : Act) → act_eq a b ≡ true → a ≡ b
act_same (Admit t) (Admit u) e = ap Admit (same_ticket t u e)
act_same (Queue m p) (Queue n q) e = with_path Queue m n p q e
act_same (Grant t p) (Grant u q) e = at_path Grant t u p q e
act_same (Visit m p) (Visit n q) e = with_path Visit m n p q e
act_same (Start t p) (Start u q) e = at_path Start t u p q e
act_same (Stop t p) (Stop u q) e = at_path Stop t u p q e
act_same (Free m p) (Free n q) e = with_path Free m n p q e
act_same (Pass m p g) (Pass n q h) e = passed m n p q g h e
act_same (Land m p) (Land n q) e = with_path Land m n p q e
act_same (Commit t) (Commit u) e = ap Commit (same_ticket t u e)
act_same a b e = cc

with_path_itself : (m : MailId) (p : Path) → (mail_eq m m && path_eq p p) ≡ true
with_path_itself m p = both (mail_eq m m) (path_eq p p) (mail_itself m) (path_eq_equiv.refl p)

at_path_itself : (t : Ticket) (p : Path) → ((t.0 == t.0) && path_eq p p) ≡ true
at_path_itself t p = both (t.0 == t.0) (path_eq p p) (nat_eq_equiv.refl t.0) (path_eq_equiv.refl p)

pub act_itself : (a : Act) → act_eq a a ≡ true
act_itself (Admit t) = nat_eq_equiv.refl t.0
act_itself (Queue m p) = with_path_itself m p
act_itself (Grant t p) = at_path_itself t p
act_itself (Visit m p) = with_path_itself m p
act_itself (Start t p) = at_path_itself t p
act_itself (Stop t p) = at_path_itself t p
act_itself (Free m p) = with_path_itself m p
act_itself (Pass m p g) = both (mail_eq m m) (path_eq p p && (g.0 == g.0)) (mail_itself m) (both (path_eq p p) (g.0 == g.0) (path_eq_equiv.refl p) (nat_eq_equiv.refl g.0))
act_itself (Land m p) = with_path_itself m p
act_itself (Commit t) = nat_eq_equiv.refl t.0

pub label_same : (a b : Label) → label_eq a b ≡ true → a ≡ b
label_same a b e =
    let w = first_of (a.worker.0 == b.worker.0) ((a.host.0 == b.host.0) && act_eq a.act b.act) e in
    let rest = second_of (a.worker.0 == b.worker.0) ((a.host.0 == b.host.0) && act_eq a.act b.act) e in
    λ i. record { worker = record { 0 = eqb-true a.worker.0 b.worker.0 w i }; host = same_host a.host b.host (first_of (a.host.0 == b.host.0) (act_eq a.act b.act) rest) i; act = act_same a.act b.act (second_of (a.host.0 == b.host.0) (act_eq a.act b.act) rest) i }

pub label_itself : (a : Label) → label_eq a a ≡ true
label_itself a =
    both (a.worker.0 == a.worker.0) ((a.host.0 == a.host.0) && act_eq a.act a.act) (nat_eq_equiv.refl a.worker.0)
    (both (a.host.0 == a.host.0) (act_eq a.act a.act) (nat_eq_equiv.refl a.host.0) (act_itself a.act))

pub mail_equiv : IsEquivalence mail_eq
mail_equiv = equiv_of mail_eq mail_same mail_itself

pub act_equiv : IsEquivalence act_eq
act_equiv = equiv_of act_eq act_same act_itself

pub label_equiv : IsEquivalence label_eq
label_equiv = equiv_of label_eq label_same label_itself

pub mail_decides : (m n : MailId) → Decides (mail_eq m n) (m ≡ n)
mail_decides m n = (mail_same m n, λ e. subst (λ r. mail_eq m r ≡ true) e (mail_itself m))

pub act_decides : (a b : Act) → Decides (act_eq a b) (a ≡ b)
act_decides a b = (act_same a b, λ e. subst (λ r. act_eq a r ≡ true) e (act_itself a))

pub label_decides : (a b : Label) → Decides (label_eq a b) (a ≡ b)
label_decides a b = (label_same a b, λ e. subst (λ r. label_eq a r ≡ true) e (label_itself a))
