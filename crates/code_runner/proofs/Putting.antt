-- The fields of a context taken out, and others put back.
use Rattle.std.proofs.Common.{◌≡◌, Bool, true, false, if◌then◌else◌, List, [], Result, Ok, Err, OnOk, OnErr, refl, ap, ◌∙◌}
use Rattle.std.specs.Prelude.{◌||◌}
use Rattle.wave_base.specs.declared.path.Path.{Path}
use Rattle.wave_base.specs.declared.shape.Shape.{Shape}
use Rattle.wave_base.specs.declared.value.Value.{Value}
use Rattle.wave_base.specs.Paths.{path_eq}
use Rattle.wave_base.specs.Tree.{Tree, there, enter, put}
use Rattle.wave_base.proofs.Trees.{there-enter}
use Rattle.context_tree.specs.Contexts.{Contexts, is_there, tree_of}

put_twice : (t : Tree (List Value)) (p : Path) (x y : List Value) → put (put t p x) p y ≡ put t p y
put_twice t p x y = λ i. record { paths = t.paths; fields = λ q. by (path_eq p q) (t.fields q) i }
  where
    by : (b : Bool) (z : List Value) → (if b then y else (if b then x else z)) ≡ (if b then y else z)
    by true z = refl
    by false z = refl

-- the tree, where the context had no fields meanwhile
pub put_back : (t u v : Contexts) (p : Path) (fields : List Value) → ((shape : Shape) → tree_of shape u ≡ put (tree_of shape t) p []) → ((shape : Shape) → tree_of shape v ≡ put (tree_of shape u) p fields) → (shape : Shape) → tree_of shape v ≡ put (tree_of shape t) p fields
put_back t u v p fields taken given shape = given shape ∙ ap (λ r. put r p fields) (taken shape) ∙ put_twice (tree_of shape t) p [] fields

no_shape : Shape
no_shape = record { classes = []; events = [] }

-- what is there is still there
pub still_here : (t u : Contexts) (p q : Path) (fields : List Value) → ((shape : Shape) → tree_of shape u ≡ put (tree_of shape t) p fields) → is_there t q ≡ true → is_there u q ≡ true
still_here t u p q fields is here = ap (λ (r : Tree (List Value)). there r q) (is no_shape) ∙ here

or_true : (b : Bool) → (b || true) ≡ true
or_true true = refl
or_true false = refl

-- what is there stays, where a context joins or memory is wanting
pub still_joined : {A E : Type 0} (r : Result A E) (shape : Shape) (t u : Contexts) (p q : Path) → OnOk r (tree_of shape u ≡ enter (tree_of shape t) p) → OnErr r (u ≡ t) → is_there t q ≡ true → is_there u q ≡ true
still_joined (Ok x) shape t u p q ok err here = ap (λ (r : Tree (List Value)). there r q) ok ∙ there-enter (tree_of shape t) p q ∙ ap (λ b. path_eq q p || b) here ∙ or_true (path_eq q p)
still_joined (Err e) shape t u p q ok err here = ap (λ (v : Contexts). is_there v q) err ∙ here
