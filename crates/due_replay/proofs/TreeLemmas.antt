-- A service that was read has a tree, and its code is that of the tree's.
use Rattle.std.proofs.Common.{◌≡◌, ◌∙◌, ℕ, List, Result, Ok, Err, ap, subst, sym}
use Rattle.wave_base.specs.declared.script.Script.{Script}
use Rattle.wave_base.specs.Names.{HasNames}
use Rattle.wave_base.specs.Scripts.{IsScript}
use Rattle.wave_base.specs.Shapes.{IsShape}
use Rattle.mace_ast.specs.Decls.{ServiceTree}
use Rattle.service_reader.specs.declared.fault.TextFault.{TextFault}
use Rattle.context_types.specs.declared.Typed.{Typed}
use Rattle.service_code.specs.declared.program.Program.{Program}
use Rattle.code_scheme.specs.Typed.{IsTyped}
use Rattle.code_scheme.proofs.Fitting.{scheme_fit, scheme_verified}
use Rattle.code_scheme.proofs.Made.{program_shape}
use Rattle.service_verify.specs.Fit.{IsFit}
use Rattle.service_verify.specs.Points.{IsVerified}
use Rattle.plan_actors.specs.Plans.{Fits}
use Rattle.due_parts.specs.Runs.{nearest_workers}
use Rattle.due_parts.specs.Served.{IsRead, IsTypedRead}
use Rattle.due_parts.proofs.NameLemmas.{code_typed}
use Rattle.due_parts.proofs.RunLemmas.{few_nearest, some_nearest}
use Rattle.due_replay.specs.inner.Trees.{HasTree}

tree_in : (typed : Typed) (program : Program) (read : Result ServiceTree TextFault) → IsTypedRead typed program read → HasTree typed program
tree_in typed program (Err e) h = absurd h
tree_in typed program (Ok tree) h = record { tree = tree; is_typed = h.0; coded = h.1 }

pub tree_of : (text : List ℕ) (typed : Typed) (program : Program) → IsRead text (IsTypedRead typed program) → HasTree typed program
tree_of text typed program h = tree_in typed program h.read h.is_so

module _ (typed : Typed) (program : Program) (h : HasTree typed program) where
  pub well_formed : IsShape typed.shape
  well_formed = h.is_typed.well_formed

  pub has_names : HasNames typed.shape
  has_names = h.is_typed.names

  pub same_shape : program.shape ≡ typed.shape
  same_shape = ap (λ (p : Program). p.shape) h.coded.is ∙ program_shape typed.shape typed.resolved

  is_typed : IsTyped typed.shape typed.resolved
  is_typed = code_typed h.tree typed h.is_typed

  -- a script of it, and the nearest number of workers, are a plan that fits
  pub plan_fits : (script : Script) (n workers : ℕ) → IsScript typed.shape script → workers ≡ nearest_workers n → Fits (record { program = program; script = script; workers = workers })
  plan_fits script n workers is many = subst (λ w. Fits (record { program = program; script = script; workers = w })) (sym many) fits
    where
      fits : Fits (record { program = program; script = script; workers = nearest_workers n })
      fits = record {
        fit = subst IsFit (sym h.coded.is) (scheme_fit typed.shape typed.resolved is_typed);
        verified = subst IsVerified (sym h.coded.is) (scheme_verified typed.shape typed.resolved is_typed);
        script = subst (λ s. IsScript s script) (sym same_shape) is;
        some_worker = some_nearest n;
        few_workers = few_nearest n;
      }
