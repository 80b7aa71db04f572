-- What holds of each element of a list, or of the elements of two lists one by one.
use Rattle.std.specs.Prelude.{◌≡◌, Bool, true, List, [], ◌∷◌, ◌++◌, map, ℕ, zero, suc, take}
use Rattle.cells.specs.Laws.Basics.{and_split}
use Rattle.cells.specs.Every.{every, Each, each_end, each_on, Pairs, pairs_end, pairs_on}

pub each_all : {A : Type 0} (P : A → Type 0) (xs : List A) → ((x : A) → P x) → Each P xs
each_all P [] f = each_end
each_all P (x ∷ xs) f = each_on (f x) (each_all P xs f)

pub each_append : {A : Type 0} (P : A → Type 0) (xs ys : List A) → Each P xs → Each P ys → Each P (xs ++ ys)
each_append P [] ys each_end b = b
each_append P (x ∷ xs) ys (each_on p a) b = each_on p (each_append P xs ys a b)

pub each_take : {A : Type 0} (P : A → Type 0) (k : ℕ) (xs : List A) → Each P xs → Each P (take k xs)
each_take P zero xs a = each_end
each_take P (suc k) [] a = each_end
each_take P (suc k) (x ∷ xs) (each_on p a) = each_on p (each_take P k xs a)

pub each_weaken : {A : Type 0} (P Q : A → Type 0) (xs : List A) → ((x : A) → P x → Q x) → Each P xs → Each Q xs
each_weaken P Q [] f each_end = each_end
each_weaken P Q (x ∷ xs) f (each_on p a) = each_on (f x p) (each_weaken P Q xs f a)

-- of a list all of which pass a test
pub each-every : {A : Type 0} (P : A → Bool) (xs : List A) → every P xs ≡ true → Each (λ x. P x ≡ true) xs
unfolding every
each-every P [] e = each_end
each-every P (x ∷ xs) e = let w = and_split (P x) (every P xs) e in each_on w.0 (each-every P xs w.1)

-- of the images of a list, and of what they are the images of
pub each-in-map : {A B : Type 0} (P : B → Type 0) (f : A → B) (xs : List A) → Each (λ x. P (f x)) xs → Each P (map f xs)
each-in-map P f [] each_end = each_end
each-in-map P f (x ∷ xs) (each_on p a) = each_on p (each-in-map P f xs a)

pub each-of-map : {A B : Type 0} (P : B → Type 0) (f : A → B) (xs : List A) → Each P (map f xs) → Each (λ x. P (f x)) xs
each-of-map P f [] each_end = each_end
each-of-map P f (x ∷ xs) (each_on p a) = each_on p (each-of-map P f xs a)

pub each_first : {A : Type 0} (P : A → Type 0) (x : A) (xs : List A) → Each P (x ∷ xs) → P x
each_first P x xs (each_on p a) = p

pub each-rest : {A : Type 0} (P : A → Type 0) (x : A) (xs : List A) → Each P (x ∷ xs) → Each P xs
each-rest P x xs (each_on p a) = a

pub each_left : {A : Type 0} (P : A → Type 0) (xs ys : List A) → Each P (xs ++ ys) → Each P xs
each_left P [] ys a = each_end
each_left P (x ∷ xs) ys (each_on p a) = each_on p (each_left P xs ys a)

pub each_right : {A : Type 0} (P : A → Type 0) (xs ys : List A) → Each P (xs ++ ys) → Each P ys
each_right P [] ys a = a
each_right P (x ∷ xs) ys (each_on p a) = each_right P xs ys a

pub pairs-map : {X A : Type 0} (R : A → A → Type 0) (f g : X → A) (xs : List X) → ((x : X) → R (f x) (g x)) → Pairs R (map f xs) (map g xs)
pairs-map R f g [] h = pairs_end
pairs-map R f g (x ∷ xs) h = pairs_on (h x) (pairs-map R f g xs h)

-- where R needs what holds of each
pub pairs-map-each : {X A : Type 0} (P : X → Type 0) (R : A → A → Type 0) (f g : X → A) (xs : List X) → ((x : X) → P x → R (f x) (g x)) → Each P xs → Pairs R (map f xs) (map g xs)
pairs-map-each P R f g [] h each_end = pairs_end
pairs-map-each P R f g (x ∷ xs) h (each_on p a) = pairs_on (h x p) (pairs-map-each P R f g xs h a)

pub pairs-append : {A : Type 0} (R : A → A → Type 0) (xs ys us vs : List A) → Pairs R xs ys → Pairs R us vs → Pairs R (xs ++ us) (ys ++ vs)
pairs-append R [] [] us vs pairs_end q = q
pairs-append R [] (y ∷ ys) us vs p q = elim p [ ]
pairs-append R (x ∷ xs) [] us vs p q = elim p [ ]
pairs-append R (x ∷ xs) (y ∷ ys) us vs (pairs_on r p) q = pairs_on r (pairs-append R xs ys us vs p q)
