use Rattle.std.proofs.Common.{◌≡◌, ◌<◌, ◌^◌, ◌++◌, ℕ, Option, Some, None, refl, sym, ap, ◌∙◌, lit<, rules, arith}
use Rattle.wave_base.specs.declared.finished.Place.{Place}
use Rattle.path_text.specs.PlaceTexts.{place_text}
use Rattle.snapshot_text.proofs.ShotLemmas.{path_has_none}
use Rattle.checkpoint_store.proofs.place.place_of.Goals as goal

pub returns-in_default-clause-none : goal.returns-in_default-clause-none
returns-in_default-clause-none c d =
    let wide : d.0 < 2 ^ 8 = omega (arith, d.1) in
    let none = path_has_none c.args.shape.now c.requires.names 32 (lit< tt) c.args.path.now c.requires.path in
    let found : ◌≡◌ {A = Option ℕ} None (Some d.0) = c.in_default.ensures c.args.shape.now (record { path = c.args.path.now; host = record { 0 = d.0 } }) none wide d.2 in
    cc

pub returns-then-host-hosts-clause-none : goal.returns-then-host-hosts-clause-none
returns-then-host-hosts-clause-none c d =
    let wide : d.0 < 2 ^ 8 = omega (arith, d.1) in
    let none = path_has_none c.args.shape.now c.requires.names 32 (lit< tt) c.args.path.now c.requires.path in
    let found : ◌≡◌ {A = Option ℕ} (Some c.in-Some.host) (Some d.0) = c.in-Some.ensures c.args.shape.now (record { path = c.args.path.now; host = record { 0 = d.0 } }) none wide d.2 in
    let same : c.in-Some.host ≡ d.0 = cc in
    absurd (omega (arith, same, d.1, c.if-host-hosts.true))

pub returns-then-eq-clause-some : goal.returns-then-eq-clause-some
returns-then-eq-clause-some c =
    let x : Place = record { path = c.args.path.now; host = record { 0 = c.in-Some.host } } in
    let written : c.as_slice.result.now ≡ place_text c.args.shape.now x = c.as_slice.ensures.value ∙ c.in_ok-put_place.ensures ∙ ap (λ z. z ++ place_text c.args.shape.now x) c.new-written.ensures.items in
    let same : c.as_slice.result.now ≡ c.args.line.now = search rules in
    record { spelled = sym same ∙ written; path_is = refl; below = c.if-host-hosts.false }

pub returns-clause-none : goal.returns-clause-none
returns-clause-none c d =
    let x : Place = record { path = c.args.path.now; host = record { 0 = c.in-Some.host } } in
    let written : c.as_slice.result.now ≡ place_text c.args.shape.now x = c.as_slice.ensures.value ∙ c.in_ok-put_place.ensures ∙ ap (λ z. z ++ place_text c.args.shape.now x) c.new-written.ensures.items in
    let wide : d.0 < 2 ^ 8 = omega (arith, d.1) in
    let none = path_has_none c.args.shape.now c.requires.names 32 (lit< tt) c.args.path.now c.requires.path in
    let found : ◌≡◌ {A = Option ℕ} (Some c.in-Some.host) (Some d.0) = c.in-Some.ensures c.args.shape.now (record { path = c.args.path.now; host = record { 0 = d.0 } }) none wide d.2 in
    let host : c.in-Some.host ≡ d.0 = cc in
    let differ : c.as_slice.result.now ≡ c.args.line.now → ⊥ = λ f. search rules in
    differ (written ∙ ap (λ h. place_text c.args.shape.now (record { path = c.args.path.now; host = record { 0 = h } })) host ∙ sym d.2)
