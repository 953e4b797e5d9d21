-- The first element of some tags, met from the front.
use Rattle.std.proofs.Common.{◌≡◌, ◌∙◌, ◌<◌, true, false, cond, ◌==◌, List, Some, None, sym, ap, arith, refl}
use Rattle.std.proofs.lemmas.Bool.{cond-false, cond-true}
use Rattle.z_ber.specs.declared.tag.Tag.{Tag}
use Rattle.z_ber.specs.Element.{Forest, none, leaf, branch}
use Rattle.unit_forms.specs.Reading.Elements.{Field, first_element, other_elements, is_constructed, is_one_of, first_of, first_constructed, first_context}
use Rattle.z_fields.specs.Trees.{count}

some_none : {P : Type 0} (f : Field) → Some f ≡ None → P
some_none f e = absurd (grind arith)

field_is : (f g : Field) → Some f ≡ Some g → f ≡ g
field_is f g e = cc

pub none_at : (choice : List Tag) (forest : Forest) → None ≡ first_element forest → first_of choice forest ≡ None
none_at choice none e = refl
none_at choice (leaf t c os) e = some_none _ (sym e)
none_at choice (branch t c is os) e = some_none _ (sym e)

pub first_at : (choice : List Tag) (forest : Forest) (f : Field) → Some f ≡ first_element forest → first_of choice forest ≡ cond (is_one_of choice f.tag) (Some f) (first_of choice (other_elements forest))
first_at choice none f e = some_none f e
first_at choice (leaf t c os) f e = rw (field_is f _ e) refl
first_at choice (branch t c is os) f e = rw (field_is f _ e) refl

none_context_at : (forest : Forest) → None ≡ first_element forest → first_context forest ≡ None
none_context_at none e = refl
none_context_at (leaf t c os) e = some_none _ (sym e)
none_context_at (branch t c is os) e = some_none _ (sym e)

context_at : (forest : Forest) (f : Field) → Some f ≡ first_element forest → first_context forest ≡ cond (f.tag.class == 2) (Some f) (first_context (other_elements forest))
context_at none f e = some_none f e
context_at (leaf t c os) f e = rw (field_is f _ e) refl
context_at (branch t c is os) f e = rw (field_is f _ e) refl

none_constructed_at : (wanted : Tag) (forest : Forest) → None ≡ first_element forest → first_constructed wanted forest ≡ None
none_constructed_at wanted none e = refl
none_constructed_at wanted (leaf t c os) e = some_none _ (sym e)
none_constructed_at wanted (branch t c is os) e = some_none _ (sym e)

constructed_at : (wanted : Tag) (forest : Forest) (f : Field) → Some f ≡ first_element forest → first_constructed wanted forest ≡ cond (is_constructed wanted f.tag) (Some f) (first_constructed wanted (other_elements forest))
constructed_at wanted none f e = some_none f e
constructed_at wanted (leaf t c os) f e = rw (field_is f _ e) refl
constructed_at wanted (branch t c is os) f e = rw (field_is f _ e) refl

-- no element is left, and none was passed that is the one
pub none_first : (choice : List Tag) (start forest : Forest) → first_of choice start ≡ first_of choice forest → None ≡ first_element forest → None ≡ first_of choice start
none_first choice start forest passed e = sym (passed ∙ none_at choice forest e)

-- the element at the front is the one
pub here_first : (choice : List Tag) (start forest : Forest) (f : Field) → first_of choice start ≡ first_of choice forest → Some f ≡ first_element forest → is_one_of choice f.tag ≡ true → Some f ≡ first_of choice start
here_first choice start forest f passed e y = sym (passed ∙ first_at choice forest f e ∙ cond-true (is_one_of choice f.tag) _ _ y)

-- it is passed
pub later_first : (choice : List Tag) (start forest others : Forest) (f : Field) → first_of choice start ≡ first_of choice forest → Some f ≡ first_element forest → others ≡ other_elements forest → is_one_of choice f.tag ≡ false → first_of choice start ≡ first_of choice others
later_first choice start forest others f passed e o y =
    passed ∙ first_at choice forest f e ∙ cond-false (is_one_of choice f.tag) _ _ y ∙ ap (first_of choice) (sym o)

-- likewise of the context class
pub none_context : (start forest : Forest) → first_context start ≡ first_context forest → None ≡ first_element forest → None ≡ first_context start
none_context start forest passed e = sym (passed ∙ none_context_at forest e)

pub here_context : (start forest : Forest) (f : Field) → first_context start ≡ first_context forest → Some f ≡ first_element forest → (f.tag.class == 2) ≡ true → Some f ≡ first_context start
here_context start forest f passed e y = sym (passed ∙ context_at forest f e ∙ cond-true (f.tag.class == 2) _ _ y)

pub later_context : (start forest others : Forest) (f : Field) → first_context start ≡ first_context forest → Some f ≡ first_element forest → others ≡ other_elements forest → (f.tag.class == 2) ≡ false → first_context start ≡ first_context others
later_context start forest others f passed e o y =
    passed ∙ context_at forest f e ∙ cond-false (f.tag.class == 2) _ _ y ∙ ap first_context (sym o)

-- likewise of a constructed one with a tag
pub none_constructed : (wanted : Tag) (start forest : Forest) → first_constructed wanted start ≡ first_constructed wanted forest → None ≡ first_element forest → None ≡ first_constructed wanted start
none_constructed wanted start forest passed e = sym (passed ∙ none_constructed_at wanted forest e)

pub here_constructed : (wanted : Tag) (start forest : Forest) (f : Field) → first_constructed wanted start ≡ first_constructed wanted forest → Some f ≡ first_element forest → is_constructed wanted f.tag ≡ true → Some f ≡ first_constructed wanted start
here_constructed wanted start forest f passed e y = sym (passed ∙ constructed_at wanted forest f e ∙ cond-true (is_constructed wanted f.tag) _ _ y)

pub later_constructed : (wanted : Tag) (start forest others : Forest) (f : Field) → first_constructed wanted start ≡ first_constructed wanted forest → Some f ≡ first_element forest → others ≡ other_elements forest → is_constructed wanted f.tag ≡ false → first_constructed wanted start ≡ first_constructed wanted others
later_constructed wanted start forest others f passed e o y =
    passed ∙ constructed_at wanted forest f e ∙ cond-false (is_constructed wanted f.tag) _ _ y ∙ ap (first_constructed wanted) (sym o)

fewer_at : (forest : Forest) (f : Field) → Some f ≡ first_element forest → count (other_elements forest) < count forest
fewer_at none f e = some_none f e
fewer_at (leaf t c os) f e = omega arith
fewer_at (branch t c is os) f e = omega arith

-- fewer are left
pub fewer : (forest others : Forest) (f : Field) → Some f ≡ first_element forest → others ≡ other_elements forest → count others < count forest
fewer forest others f e o = let less = fewer_at forest f e in let same = ap count o in omega arith

pub ruleset first_steps = (none_first, here_first, later_first, fewer)

pub ruleset context_steps = (none_context, here_context, later_context, fewer)

pub ruleset constructed_steps = (none_constructed, here_constructed, later_constructed, fewer)
