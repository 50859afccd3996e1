-- Wherever the walk goes, what the service declares is the same.
use Rattle.std.proofs.Common.{◌≡◌, List, [], ◌∷◌, refl}
use Rattle.mace_ast.specs.declared.method.Param.{Param}
use Rattle.mace_ast.specs.Decls.{PhaseTree}
use Rattle.mace_ast.specs.Stmts.{StmtTrees, stmts_of}
use Rattle.type_rules.specs.Here.{Here, with_local}
use Rattle.type_rules.specs.Stmts.{after_all}
use Rattle.type_rules.specs.Functions.{after_params, phase_here, phase_end}
use Rattle.type_laws.proofs.Steps.{after_all_at}

pub params_stay : (h : Here) (ps : List Param) → (after_params h ps).known ≡ h.known
params_stay h [] = refl
params_stay h (p ∷ ps) = params_stay (with_local h p.name.text p.kind) ps

pub stmts_stay : (h : Here) (ss : StmtTrees) → (after_all h ss).known ≡ h.known
stmts_stay h ss = (after_all_at h.known h.class h (record { same_known = refl; same_class = refl }) ss).same_known

pub phase_stays : (h : Here) (p : PhaseTree) → (phase_end h p).known ≡ h.known
phase_stays h p = stmts_stay (phase_here h p) (stmts_of p.body)
