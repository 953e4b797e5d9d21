-- Elements one after another are read from the front.
use Rattle.std.proofs.Common.{◌≡◌, ◌∙◌, Bool, true, false, cond, leb, List, [], ◌∷◌, ◌++◌, Some, None, Result, Ok, Err, sym, ap, subst, append_assoc, arith, refl}
use Rattle.std.proofs.lemmas.List.{append-nil}
use Rattle.std.proofs.lemmas.Bool.{leb-true, leb-false, cond-false, cond-true}
use Rattle.z_types.specs.declared.requests.Asked.{Asked}
use Rattle.z_types.specs.declared.requests.Asked.TheVariants.{Good, Bad}
use Rattle.z_ber.specs.Element.{Forest, none, leaf, branch}
use Rattle.unit_forms.specs.declared.refusal.Refusal.{Refusal}
use Rattle.unit_forms.specs.Reading.Answers.{rank, first_refusal, read_as, in_front, each, both_asked, asked_as, all_asked}
use Rattle.unit_forms.specs.Reading.Elements.{Field, first_element, other_elements}
use Rattle.z_fields.proofs.FirstLemmas.{fewer}
use Rattle.z_fields.specs.declared.answers.FieldFault.{FieldFault}
use Rattle.z_fields.specs.Answers.{IsOrMemory}
use Rattle.z_read.specs.Parts.{read_behind, read_joined, served_behind, asked_behind, join_lists, asked_joined, IsBehind, IsPassed}

some_none : {P : Type 0} (f : Field) → Some f ≡ None → P
some_none f e = absurd (grind arith)

field_is : (f g : Field) → Some f ≡ Some g → f ≡ g
field_is f g e = cc

-- the first of three refusals, in either order of asking
first_of_three : (r s t : Refusal) → first_refusal (first_refusal r s) t ≡ first_refusal r (first_refusal s t)
first_of_three r s t = by (leb (rank r) (rank s)) (leb (rank s) (rank t)) (leb (rank r) (rank t)) refl refl refl
  where
    by : (a b c : Bool) → leb (rank r) (rank s) ≡ a → leb (rank s) (rank t) ≡ b → leb (rank r) (rank t) ≡ c → first_refusal (cond a r s) t ≡ first_refusal r (cond b s t)
    by true true true p q w = rw (p, w) refl
    by true true false p q w = absurd (omega (arith, leb-true (rank r) (rank s) p, leb-true (rank s) (rank t) q, leb-false (rank r) (rank t) w))
    by true false c p q w = refl
    by false true c p q w = rw (p, q) refl
    by false false true p q w = absurd (omega (arith, leb-false (rank r) (rank s) p, leb-false (rank s) (rank t) q, leb-true (rank r) (rank t) w))
    by false false false p q w = rw (q, w) refl

-- one more, and others behind it
behind_joined : {A : Type 0} (items : Result (List A) Refusal) (item : Result A Refusal) (more : Result (List A) Refusal) → read_joined (read_behind items item) more ≡ read_joined items (in_front item more)
behind_joined (Ok xs) (Ok x) (Ok ys) = ap Ok (append_assoc xs (x ∷ []) ys)
behind_joined (Ok xs) (Ok x) (Err t) = refl
behind_joined (Ok xs) (Err s) (Ok ys) = refl
behind_joined (Ok xs) (Err s) (Err t) = refl
behind_joined (Err r) (Ok x) (Ok ys) = refl
behind_joined (Err r) (Ok x) (Err t) = refl
behind_joined (Err r) (Err s) (Ok ys) = refl
behind_joined (Err r) (Err s) (Err t) = ap Err (first_of_three r s t)

none_at : {A : Type 0} (wanted : Field → Bool) (read : Field → Result A Refusal) (left : Forest) → None ≡ first_element left → each wanted read left ≡ Ok []
none_at wanted read none e = refl
none_at wanted read (leaf t c os) e = some_none _ (sym e)
none_at wanted read (branch t c is os) e = some_none _ (sym e)

first_at : {A : Type 0} (wanted : Field → Bool) (read : Field → Result A Refusal) (left : Forest) (f : Field) → Some f ≡ first_element left → each wanted read left ≡ cond (wanted f) (in_front (read f) (each wanted read (other_elements left))) (each wanted read (other_elements left))
first_at wanted read none f e = some_none f e
first_at wanted read (leaf t c os) f e = rw (field_is f _ e) refl
first_at wanted read (branch t c is os) f e = rw (field_is f _ e) refl

joined_nothing : {A : Type 0} (items : Result (List A) Refusal) → read_joined items (Ok []) ≡ items
joined_nothing (Ok xs) = ap Ok (append-nil xs)
joined_nothing (Err r) = refl

nothing_joined : {A : Type 0} (more : Result (List A) Refusal) → more ≡ read_joined (Ok []) more
nothing_joined (Ok ys) = refl
nothing_joined (Err r) = refl

-- no element is left
each_none : {A : Type 0} (wanted : Field → Bool) (read : Field → Result A Refusal) (start left : Forest) (items : Result (List A) Refusal) → each wanted read start ≡ read_joined items (each wanted read left) → None ≡ first_element left → items ≡ each wanted read start
each_none wanted read start left items passed e =
    sym (passed ∙ ap (read_joined items) (none_at wanted read left e) ∙ joined_nothing items)

-- one is read
each_on : {A : Type 0} (wanted : Field → Bool) (read : Field → Result A Refusal) (start left others : Forest) (items new : Result (List A) Refusal) (item : Result A Refusal) (f : Field) → each wanted read start ≡ read_joined items (each wanted read left) → Some f ≡ first_element left → others ≡ other_elements left → wanted f ≡ true → item ≡ read f → new ≡ read_behind items item → each wanted read start ≡ read_joined new (each wanted read others)
each_on wanted read start left others items new item f passed e o y is more =
    passed ∙ ap (read_joined items) (first_at wanted read left f e ∙ cond-true (wanted f) _ _ y)
    ∙ sym (behind_joined items (read f) (each wanted read (other_elements left)))
    ∙ ap (λ n. read_joined n (each wanted read (other_elements left))) (ap (read_behind items) (sym is) ∙ sym more)
    ∙ ap (λ q. read_joined new (each wanted read q)) (sym o)

-- one is skipped
each_skipped : {A : Type 0} (wanted : Field → Bool) (read : Field → Result A Refusal) (start left others : Forest) (items : Result (List A) Refusal) (f : Field) → each wanted read start ≡ read_joined items (each wanted read left) → Some f ≡ first_element left → others ≡ other_elements left → wanted f ≡ false → each wanted read start ≡ read_joined items (each wanted read others)
each_skipped wanted read start left others items f passed e o y =
    passed ∙ ap (read_joined items) (first_at wanted read left f e ∙ cond-false (wanted f) _ _ y) ∙ ap (λ q. read_joined items (each wanted read q)) (sym o)

-- ---- the same, where a part may be one that is not served

served_joined : {A : Type 0} (items : Asked (List A)) (item : Asked A) (more : List (Asked A)) → join_lists (served_behind (items, item), more) ≡ join_lists (items, item ∷ more)
served_joined {A} (Good xs) (Good x) more = by (all_asked more)
  where
    by : (rest : Asked (List A)) → asked_as (λ q. q.0 ++ q.1) (both_asked (Good (xs ++ x ∷ [])) rest) ≡ asked_as (λ q. q.0 ++ q.1) (both_asked (Good xs) (asked_as (λ p. p.0 ∷ p.1) (both_asked (Good x) rest)))
    by (Good ys) = ap Good (append_assoc xs (x ∷ []) ys)
    by (Bad d) = refl
served_joined (Good xs) (Bad d) more = refl
served_joined (Bad d) item more = refl

asked_behind_joined : {A : Type 0} (items : Result (Asked (List A)) Refusal) (item : Result (Asked A) Refusal) (more : Result (List (Asked A)) Refusal) → asked_joined (asked_behind items item) more ≡ asked_joined items (in_front item more)
asked_behind_joined (Ok xs) (Ok x) (Ok ys) = ap Ok (served_joined xs x ys)
asked_behind_joined (Ok xs) (Ok x) (Err t) = refl
asked_behind_joined (Ok xs) (Err s) (Ok ys) = refl
asked_behind_joined (Ok xs) (Err s) (Err t) = refl
asked_behind_joined (Err r) (Ok x) (Ok ys) = refl
asked_behind_joined (Err r) (Ok x) (Err t) = refl
asked_behind_joined (Err r) (Err s) (Ok ys) = refl
asked_behind_joined (Err r) (Err s) (Err t) = ap Err (first_of_three r s t)

asked_nothing : {A : Type 0} (items : Result (Asked (List A)) Refusal) → asked_joined items (Ok []) ≡ items
asked_nothing (Ok (Good xs)) = ap (λ l. Ok (Good l)) (append-nil xs)
asked_nothing (Ok (Bad d)) = refl
asked_nothing (Err r) = refl

nothing_before : {A : Type 0} (rest : Asked (List A)) → asked_as (λ q. q.0 ++ q.1) (both_asked (Good []) rest) ≡ rest
nothing_before (Good xs) = refl
nothing_before (Bad d) = refl

nothing_asked : {A : Type 0} (more : Result (List (Asked A)) Refusal) → read_as all_asked more ≡ asked_joined (Ok (Good [])) more
nothing_asked (Ok ys) = ap Ok (sym (nothing_before (all_asked ys)))
nothing_asked (Err r) = refl

asked_none : {A : Type 0} (read : Field → Result (Asked A) Refusal) (start left : Forest) (items : Result (Asked (List A)) Refusal) → read_as all_asked (each (λ field. true) read start) ≡ asked_joined items (each (λ field. true) read left) → None ≡ first_element left → items ≡ read_as all_asked (each (λ field. true) read start)
asked_none read start left items passed e =
    sym (passed ∙ ap (asked_joined items) (none_at (λ field. true) read left e) ∙ asked_nothing items)

asked_on : {A : Type 0} (read : Field → Result (Asked A) Refusal) (start left others : Forest) (items new : Result (Asked (List A)) Refusal) (item : Result (Asked A) Refusal) (f : Field) → read_as all_asked (each (λ field. true) read start) ≡ asked_joined items (each (λ field. true) read left) → Some f ≡ first_element left → others ≡ other_elements left → item ≡ read f → new ≡ asked_behind items item → read_as all_asked (each (λ field. true) read start) ≡ asked_joined new (each (λ field. true) read others)
asked_on read start left others items new item f passed e o is more =
    passed ∙ ap (asked_joined items) (first_at (λ field. true) read left f e)
    ∙ sym (asked_behind_joined items (read f) (each (λ field. true) read (other_elements left)))
    ∙ ap (λ n. asked_joined n (each (λ field. true) read (other_elements left))) (ap (asked_behind items) (sym is) ∙ sym more)
    ∙ ap (λ q. asked_joined new (each (λ field. true) read q)) (sym o)

-- ---- as they are read, with want of memory

pub nothing_passed : {A : Type 0} (whole : Result (List A) Refusal) → IsPassed read_joined whole whole (Ok [])
nothing_passed whole = record { done = Ok []; read = refl; passed = nothing_joined whole }

pub passed_none : {A : Type 0} (wanted : Field → Bool) (read : Field → Result A Refusal) (start left : Forest) (items : Result (List A) FieldFault) → IsPassed read_joined (each wanted read start) (each wanted read left) items → None ≡ first_element left → IsOrMemory (each wanted read start) items
passed_none wanted read start left items passed e =
    subst (λ w. IsOrMemory w items) (each_none wanted read start left passed.done passed.passed e) passed.read

pub passed_on : {A : Type 0} (wanted : Field → Bool) (read : Field → Result A Refusal) (start left others : Forest) (items new : Result (List A) FieldFault) (item : Result A FieldFault) (f : Field) → IsPassed read_joined (each wanted read start) (each wanted read left) items → Some f ≡ first_element left → others ≡ other_elements left → wanted f ≡ true → IsOrMemory (read f) item → IsBehind read_behind items item new → IsPassed read_joined (each wanted read start) (each wanted read others) new
passed_on wanted read start left others items new item f passed e o y is behind =
    record { done = read_behind passed.done (read f); read = behind passed.done (read f) passed.read is; passed = each_on wanted read start left others passed.done (read_behind passed.done (read f)) (read f) f passed.passed e o y refl refl }

pub passed_skipped : {A : Type 0} (wanted : Field → Bool) (read : Field → Result A Refusal) (start left others : Forest) (items : Result (List A) FieldFault) (f : Field) → IsPassed read_joined (each wanted read start) (each wanted read left) items → Some f ≡ first_element left → others ≡ other_elements left → wanted f ≡ false → IsPassed read_joined (each wanted read start) (each wanted read others) items
passed_skipped wanted read start left others items f passed e o y =
    record { done = passed.done; read = passed.read; passed = each_skipped wanted read start left others passed.done f passed.passed e o y }

pub nothing_served : {A : Type 0} (more : Result (List (Asked A)) Refusal) → IsPassed asked_joined (read_as all_asked more) more (Ok (Good []))
nothing_served more = record { done = Ok (Good []); read = refl; passed = nothing_asked more }

pub served_none : {A : Type 0} (read : Field → Result (Asked A) Refusal) (start left : Forest) (items : Result (Asked (List A)) FieldFault) → IsPassed asked_joined (read_as all_asked (each (λ field. true) read start)) (each (λ field. true) read left) items → None ≡ first_element left → IsOrMemory (read_as all_asked (each (λ field. true) read start)) items
served_none read start left items passed e =
    subst (λ w. IsOrMemory w items) (asked_none read start left passed.done passed.passed e) passed.read

pub served_on : {A : Type 0} (read : Field → Result (Asked A) Refusal) (start left others : Forest) (items new : Result (Asked (List A)) FieldFault) (item : Result (Asked A) FieldFault) (f : Field) → IsPassed asked_joined (read_as all_asked (each (λ field. true) read start)) (each (λ field. true) read left) items → Some f ≡ first_element left → others ≡ other_elements left → IsOrMemory (read f) item → IsBehind asked_behind items item new → IsPassed asked_joined (read_as all_asked (each (λ field. true) read start)) (each (λ field. true) read others) new
served_on read start left others items new item f passed e o is behind =
    record { done = asked_behind passed.done (read f); read = behind passed.done (read f) passed.read is; passed = asked_on read start left others passed.done (asked_behind passed.done (read f)) (read f) f passed.passed e o refl refl }

pub ruleset each_steps = (nothing_passed, passed_none, passed_on, passed_skipped, fewer)

pub ruleset asked_steps = (nothing_served, served_none, served_on, fewer)
