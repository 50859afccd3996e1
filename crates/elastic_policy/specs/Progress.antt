-- How far a script with policies has come, in either form.
use Rattle.elastic_policy.specs.declared.progress.Progress.{Progress}
use Rattle.elastic_policy.specs.declared.progress.Progress.TheVariants.{Kept, Live}
use Rattle.elastic_policy.specs.Stages.{Staged}

abbrev pub come_to : Progress → Staged
come_to (Kept s) = s
come_to (Live s) = s
