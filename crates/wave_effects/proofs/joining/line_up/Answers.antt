use Rattle.std.proofs.Common.{refl, sym, subst}
use Rattle.std.specs.FinMap as table
use Rattle.context_queue.specs.Entries.{StandsFor}
use Rattle.wave_effects.proofs.Queueing.{born_is, there_is}
use Rattle.wave_effects.proofs.joining.line_up.Goals as goal

pub returns-in-Some : goal.returns-in-Some
returns-in-Some c = record {
  entry = c.queue.new.self;
  store = c.birth.ensures.store;
  gone = c.birth.ensures.gone;
  stands = λ e en is h. c.queue.ensures.entry en (subst (λ z. StandsFor z en) (sym (born_is c.args.store.now (table.get c.args.store.now.store c.args.path) c.args.born c.in-Some.entry e c.requires c.in-Some.is is)) h);
}

pub returns-in-None : goal.returns-in-None
returns-in-None c = record {
  entry = c.queue-in-None.new.self;
  store = refl;
  gone = refl;
  stands = λ e en is h. c.queue-in-None.ensures.entry en (subst (λ z. StandsFor z en) (sym (there_is (table.get c.args.store.now.store c.args.path) c.args.born c.entry_mut.result.now e c.entry_mut.ensures.value is)) h);
}
