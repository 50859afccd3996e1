use Rattle.std.proofs.Common.{◌≡◌, List, [], ◌∷◌, ◌||◌, refl, ◌∙◌, sym, ap}
use Rattle.std.specs.BTreeMap.{is_at}
use Rattle.std.specs.List.{list_any}
use Rattle.wave_base.specs.declared.path.Path.{Path}
use Rattle.wave_base.specs.Paths.{path_cmp, path_eq}
use Rattle.wave_base.specs.PathLaws.{path_eq_ties}
use Rattle.service_vm.proofs.held.Held.contains.Goals as goal

-- a path is there where its key is
same_test : (p : Path) (ps : List Path) → list_any (is_at (path_cmp p)) ps ≡ list_any (path_eq p) ps
same_test p [] = refl
same_test p (q ∷ ps) = λ i. sym (path_eq_ties p q) i || same_test p ps i

pub returns : goal.returns
returns c = c.contains.ensures ∙ same_test c.args.path.now c.self.inside.paths.keys ∙ ap (list_any (path_eq c.args.path.now)) c.self.view_is
