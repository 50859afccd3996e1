use Rattle.std.proofs.Common.{◌≡◌, ◌<◌, ◌^◌, ℕ, List, Option, Some, arith}
use Rattle.checkpoint_store.specs.declared.numbers.Numbers.{Numbers}
use Rattle.checkpoint_store.specs.Points.{AreInRange}
use Rattle.wave_text.specs.Numbers.{IsNumberOf}
use Rattle.checkpoint_store.proofs.NumberLemmas.{AreRead, numbers_read, numbers_found}
use Rattle.checkpoint_store.proofs.numbers.numbers_in.Goals as goal

hosts_are : (n : Numbers) (h l t : List ℕ) (o : Option ℕ) → AreInRange n → AreRead n h l t → IsNumberOf 8 h o → o ≡ Some n.hosts
hosts_are n h l t o r a f = (let low : n.hosts < 2 ^ 8 = omega (arith, r.few_hosts) in f n.hosts low a.hosts_are)

lines_are : (n : Numbers) (h l t : List ℕ) (o : Option ℕ) → AreInRange n → AreRead n h l t → IsNumberOf 32 l o → o ≡ Some n.lines
lines_are n h l t o r a f = (let low : n.lines < 2 ^ 32 = omega (arith, r.few_lines) in f n.lines low a.lines_are)

next_is : (n : Numbers) (h l t : List ℕ) (o : Option ℕ) → AreInRange n → AreRead n h l t → IsNumberOf 32 t o → o ≡ Some n.next
next_is n h l t o r a f = (let low : n.next < 2 ^ 32 = omega (arith, r.last_next) in f n.next low a.next_is)

pub returns-in_err-hosts : goal.returns-in_err-hosts
returns-in_err-hosts c n h e =
    let a =
    numbers_read n h c.args.line.now c.parts_at.result.0.now c.parts_at.result.1.now c.parts_at-2.result.0.now c.parts_at-2.result.1.now c.parts_at-3.result.0.now c.parts_at-3.result.1.now c.parts_at-4.result.0.now c.parts_at-4.result.1.now c.parts_at-5.result.0.now c.parts_at-5.result.1.now
    c.parts_at.ensures.parts c.parts_at-2.ensures.parts c.parts_at-3.ensures.parts c.parts_at-4.ensures.parts c.parts_at-5.ensures.parts e in
    let found = hosts_are n c.parts_at-2.result.0.now c.parts_at-4.result.0.now c.parts_at-5.result.1.now c.byte_of.result h a c.byte_of.ensures in
    absurd (cc (found, c.in_err-hosts.was))

pub returns-in_err-lines : goal.returns-in_err-lines
returns-in_err-lines c n h e =
    let a =
    numbers_read n h c.args.line.now c.parts_at.result.0.now c.parts_at.result.1.now c.parts_at-2.result.0.now c.parts_at-2.result.1.now c.parts_at-3.result.0.now c.parts_at-3.result.1.now c.parts_at-4.result.0.now c.parts_at-4.result.1.now c.parts_at-5.result.0.now c.parts_at-5.result.1.now
    c.parts_at.ensures.parts c.parts_at-2.ensures.parts c.parts_at-3.ensures.parts c.parts_at-4.ensures.parts c.parts_at-5.ensures.parts e in
    let found = lines_are n c.parts_at-2.result.0.now c.parts_at-4.result.0.now c.parts_at-5.result.1.now c.u32_of.result h a c.u32_of.ensures in
    absurd (cc (found, c.in_err-lines.was))

pub returns-in_err-next : goal.returns-in_err-next
returns-in_err-next c n h e =
    let a =
    numbers_read n h c.args.line.now c.parts_at.result.0.now c.parts_at.result.1.now c.parts_at-2.result.0.now c.parts_at-2.result.1.now c.parts_at-3.result.0.now c.parts_at-3.result.1.now c.parts_at-4.result.0.now c.parts_at-4.result.1.now c.parts_at-5.result.0.now c.parts_at-5.result.1.now
    c.parts_at.ensures.parts c.parts_at-2.ensures.parts c.parts_at-3.ensures.parts c.parts_at-4.ensures.parts c.parts_at-5.ensures.parts e in
    let found = next_is n c.parts_at-2.result.0.now c.parts_at-4.result.0.now c.parts_at-5.result.1.now c.u32_of-2.result h a c.u32_of-2.ensures in
    absurd (cc (found, c.in_err-next.was))

pub returns : goal.returns
returns c n h e =
    let a =
    numbers_read n h c.args.line.now c.parts_at.result.0.now c.parts_at.result.1.now c.parts_at-2.result.0.now c.parts_at-2.result.1.now c.parts_at-3.result.0.now c.parts_at-3.result.1.now c.parts_at-4.result.0.now c.parts_at-4.result.1.now c.parts_at-5.result.0.now c.parts_at-5.result.1.now
    c.parts_at.ensures.parts c.parts_at-2.ensures.parts c.parts_at-3.ensures.parts c.parts_at-4.ensures.parts c.parts_at-5.ensures.parts e in
    let hosts = hosts_are n c.parts_at-2.result.0.now c.parts_at-4.result.0.now c.parts_at-5.result.1.now c.byte_of.result h a c.byte_of.ensures in
    let lines = lines_are n c.parts_at-2.result.0.now c.parts_at-4.result.0.now c.parts_at-5.result.1.now c.u32_of.result h a c.u32_of.ensures in
    let next = next_is n c.parts_at-2.result.0.now c.parts_at-4.result.0.now c.parts_at-5.result.1.now c.u32_of-2.result h a c.u32_of-2.ensures in
    numbers_found c.in_ok-hosts.hosts c.in_ok-lines.lines c.in_ok-next.next n (cc (hosts, c.in_ok-hosts.was)) (cc (lines, c.in_ok-lines.was)) (cc (next, c.in_ok-next.was))
