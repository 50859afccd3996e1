use Rattle.service_verify.proofs.asks.+class_above.Given as goal

abbrev pub decreases-class_above : goal.decreases-class_above
decreases-class_above l = l.most
