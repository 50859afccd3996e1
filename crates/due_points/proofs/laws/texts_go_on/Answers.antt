use Rattle.std.proofs.Common.{◌≡◌, Ok, sym, ◌∙◌, ◌++◌, length, sum_by}
use Rattle.due_points.proofs.HostLemmas.{hosts_same}
use Rattle.due_points.proofs.laws.texts_go_on.Goals as goal

pub returns : goal.returns
returns c = λ shape first second a b r h k m.
    let hosts : b.hosts ≡ a.hosts = hosts_same shape a.hosts (sum_by length a.batches) second b k.read in
    (c.scripts_go_on.ensures shape first second a b r h k m ∙ (λ i. Ok (record { hosts = hosts i; batches = a.batches ++ b.batches })), sym hosts)
