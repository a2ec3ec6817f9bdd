-- Lists of fields, seen through a function.
use Rattle.std.proofs.Common.{◌≡◌, ℕ, List, [], ◌∷◌, Bool, true, false, ◌||◌, cond, map, Option, Some, None, option_map, codes}
use Rattle.std.proofs.Common.{refl, ap, ◌∙◌}
use Rattle.std.specs.List.{list_any, find}
use Rattle.control_requests.specs.Digits.{number_of}
use Rattle.control_requests.specs.Requests.{is_named, is_other, length_by, length_in, body_length}

pub any_seen : {A B : Type 0} (test : B → Bool) (see : A → B) (items : List A) → list_any (λ item. test (see item)) items
    ≡ list_any test (map see items)
any_seen test see [] = refl
any_seen test see (item ∷ items) = ap (λ b. test (see item) || b) (any_seen test see items)

choice_seen : {A B : Type 0} (see : A → B) (b : Bool) (item : A) (rest : Option A) (others : Option B) →
    option_map see rest ≡ others → option_map see (cond b (Some item) rest) ≡ cond b (Some (see item)) others
choice_seen see true item rest others h = refl
choice_seen see false item rest others h = h

pub find_seen : {A B : Type 0} (test : B → Bool) (see : A → B) (items : List A) →
    option_map see (find (λ item. test (see item)) items) ≡ find test (map see items)
find_seen test see [] = refl
find_seen test see (item ∷ items) = choice_seen see (test (see item)) item _ _ (find_seen test see items)

twice : {A B C : Type 0} (f : A → B) (g : B → C) (o : Option A) → option_map (λ x. g (f x)) o ≡ option_map g (option_map f o)
twice f g None = refl
twice f g (Some x) = refl

-- the same for a part of the first one
pub part_seen : {A B C : Type 0} (test : B → Bool) (see : A → B) (part : B → C) (items : List A) →
    option_map (λ item. part (see item)) (find (λ item. test (see item)) items) ≡ option_map part (find test (map see items))
part_seen test see part items = twice see part (find (λ item. test (see item)) items) ∙ ap (option_map part)
    (find_seen test see items)

others_seen : {F : Type 0} (see : F → List ℕ × List ℕ) (fields : List F) (value : Option (List ℕ)) →
    length_by see fields value ≡ length_by (λ field. field) (map see fields) value
others_seen see fields None = refl
others_seen see fields (Some value) = ap (λ b. cond b None (number_of value)) (any_seen (is_other (codes "content-length") value)
    see fields)

-- the length by fields is the length by their names and values
pub length_seen : {F : Type 0} (see : F → List ℕ × List ℕ) (fields : List F) → length_in see fields
    ≡ body_length (map see fields)
length_seen see fields =
    let coded = is_named (codes "transfer-encoding") in
    let long = is_named (codes "content-length") in
    let first = option_map (λ field. (see field).1) (find (λ field. long (see field)) fields) in
    ap (λ b. cond b None (length_by see fields first)) (any_seen coded see fields)
    ∙ ap (λ value. cond (list_any coded (map see fields)) None (length_by see fields value))
    (part_seen long see (λ field. field.1) fields)
    ∙ ap (cond (list_any coded (map see fields)) None)
    (others_seen see fields (option_map (λ field. field.1) (find long (map see fields))))
