-- The names of the small shape of the tests.
use Rattle.std.proofs.Common.{[], ◌∷◌, map, refl}
use Rattle.std.proofs.lemmas.List.Elements.{All-nil, All-cons}
use Rattle.wave_base.specs.declared.shape.ClassInfo.{ClassInfo}
use Rattle.wave_base.specs.Names.{AreNames, HasNames}
use Rattle.path_text.specs.Sample.{market_class, hall_class, hall_shape}

no_names : AreNames []
no_names = record { names_all = refl; differ = refl }

pub hall_has_names : HasNames hall_shape
hall_has_names = record {
  classes = record { names_all = refl; differ = refl };
  events = no_names;
  fields = All-cons (λ (c : ClassInfo). AreNames (map (λ f. f.name) c.fields)) market_class (hall_class ∷ []) no_names
      (All-cons (λ (c : ClassInfo). AreNames (map (λ f. f.name) c.fields)) hall_class [] no_names (All-nil (λ (c : ClassInfo). AreNames (map (λ f. f.name) c.fields))));
}
