use Rattle.wave_theory.proofs.laws.releases_rise.Goals as goal
use Rattle.wave_theory.proofs.Noted
use Rattle.wave_theory.proofs.Releasing

pub returns : goal.returns
returns g c = λ code workers b batches begins plan labels s e worker host t p event v is_event i. let a = g.T.Acting in
    Releasing.numbered (a.kind code).system workers s v worker host t p event (Releasing.run_order (a.kind code).system workers labels _ s e (Releasing.start_order (a.kind code).system b batches))
    (λ k l. (Noted.bounds (a.kind code) (a.owed code) b batches begins plan.jobs plan.some_host workers labels s e).mails t k event is_event l) is_event i
