use Rattle.std.proofs.Common.{inl, inr, Ok, Err, refl, sym, ◌∙◌}
use Rattle.checkpoint_store.specs.Laws.{AreReadBack}
use Rattle.checkpoint_store.specs.declared.error.CheckError.TheVariants as error
use Rattle.checkpoint_store.proofs.laws.points_have_one_text.Goals as goal

again : AreReadBack
again shape text point (Ok p) h v = inr (sym (v.1 (Ok point) h))
again shape text point (Err (error.Syntax n)) h v = inr (sym (v.1 (Ok point) h))
again shape text point (Err (error.Service n)) h v = inr (sym (v.1 (Ok point) h))
again shape text point (Err (error.Tree n)) h v = inr (sym (v.1 (Ok point) h))
again shape text point (Err (error.OutOfMemory w)) h v = inl (w, refl)

pub returns-clause-again : goal.returns-clause-again
returns-clause-again c = again

pub returns-clause-same : goal.returns-clause-same
returns-clause-same c shape text other point v h = v.0.spelled ∙ sym h.spelled
