-- Options and results: what a chain of steps that may fail gives.
use Rattle.std.proofs.Common.{◌≡◌, Option, None, Some, IsSome, refl, subst, sym, option_map, option_and_then, Bool}
use Rattle.std.proofs.Common.{true, false, if◌then◌else◌, ap, ◌∙◌, cond, Result, Ok, Err, OnOk}
use Rattle.std.proofs.lemmas.Option.{same_Some}

pub the_some : {A : Type 0} (o : Option A) → IsSome o → (x : A) × (o ≡ Some x)
the_some None h = cc
the_some (Some x) h = (x, refl)

pub some-is : {A : Type 0} (o : Option A) (x : A) → o ≡ Some x → IsSome o
some-is o x h = subst IsSome (sym h) refl

pub option_map-some : {A B : Type 0} (f : A → B) (o : Option A) (y : B) → option_map f o ≡ Some y
    → (x : A) × (o ≡ Some x) × (f x ≡ y)
option_map-some f None y h = cc
option_map-some f (Some x) y h = (x, refl, same_Some (f x) y h)

-- both give nothing, or both something, and these are related
abbrev pub Agree : {A B : Type 0} → (A → B → Type 0) → Option A → Option B → Type 0
Agree R None None = Unit {0}
Agree R (Some a) (Some b) = R a b
Agree R _ _ = ⊥

pub bind_agree : {A B C : Type 0} (R : A → B → Type 0) (o : Option A) (p : Option B) (f : A → Option C)
    (g : B → Option C) →
    Agree R o p → ((a : A) (b : B) → R a b → f a ≡ g b) → option_and_then f o ≡ option_and_then g p
bind_agree R None None f g r h = refl
bind_agree R None (Some b) f g r h = absurd r
bind_agree R (Some a) None f g r h = absurd r
bind_agree R (Some a) (Some b) f g r h = h a b r

pub bind_related : {A B C D : Type 0} (R : A → B → Type 0) (S : C → D → Type 0) (o : Option A) (p : Option B)
    (f : A → Option C) (g : B → Option D) →
    Agree R o p → ((a : A) (b : B) → R a b → Agree S (f a) (g b)) → Agree S (option_and_then f o) (option_and_then g p)
bind_related R S None None f g r h = tt
bind_related R S None (Some b) f g r h = absurd r
bind_related R S (Some a) None f g r h = absurd r
bind_related R S (Some a) (Some b) f g r h = h a b r

-- the same first step
pub bind_same : {A C D : Type 0} (S : C → D → Type 0) (o p : Option A) (f : A → Option C) (g : A → Option D) →
    o ≡ p → ((a : A) → Agree S (f a) (g a)) → Agree S (option_and_then f o) (option_and_then g p)
bind_same S None p f g e h = rw (← e) tt
bind_same S (Some a) p f g e h = rw (← e) (h a)

pub agree-none : {A B : Type 0} (R : A → B → Type 0) (p : Option B) → Agree R None p → p ≡ None
agree-none R None r = refl
agree-none R (Some b) r = absurd r

pub agree-some : {A B : Type 0} (R : A → B → Type 0) (a : A) (p : Option B) → Agree R (Some a) p
    → (b : B) × R a b × (p ≡ Some b)
agree-some R a None r = absurd r
agree-some R a (Some b) r = (b, r, refl)

pub bind-last : {P B O F : Type 0} (o : Option P) (next : P → Option B) (make : P → B → O) (last : O → Option F)
    → option_and_then last (option_and_then (λ p. option_and_then (λ b. Some (make p b)) (next p)) o)
    ≡ option_and_then (λ p. option_and_then (λ b. last (make p b)) (next p)) o
bind-last None next make last = refl
bind-last {P} {B} {O} (Some p) next make last = inner (next p)
  where
    inner : (o : Option B) → option_and_then last (option_and_then (λ b. Some (make p b)) o)
        ≡ option_and_then (λ b. last (make p b)) o
    inner None = refl
    inner (Some b) = refl

-- what a chain of steps that may fail gave, its first step gave
pub bind_some : {A B : Type 0} (o : Option A) (f : A → Option B) (y : B) → option_and_then f o ≡ Some y
    → (x : A) × (o ≡ Some x) × (f x ≡ Some y)
bind_some None f y h = cc
bind_some (Some x) f y h = (x, refl, h)

pub if_some : {A : Type 0} (b : Bool) (o : Option A) (y : A) → (if b then o else None) ≡ Some y → o ≡ Some y
if_some true o y h = h
if_some false o y h = cc

-- what a call of `get` says, at the pair that it gave
pub looked_up : {A B : Type 0} (f : A → B) (r : Option A) (x : A) (o : Option B) → option_map f r ≡ o → r ≡ Some x
    → o ≡ Some (f x)
looked_up f r x o e h = sym e ∙ ap (option_map f) h

pub option_map-map : {X Y Z : Type 0} (f : Y → Z) (g : X → Y) (h : X → Z) → ((x : X) → f (g x) ≡ h x) → (o : Option X)
    → option_map f (option_map g o) ≡ option_map h o
option_map-map f g h e None = refl
option_map-map f g h e (Some x) = ap Some (e x)

pub option_map-same : {X : Type 0} (f : X → X) → ((x : X) → f x ≡ x) → (o : Option X) → o ≡ option_map f o
option_map-same f e None = refl
option_map-same f e (Some x) = ap Some (sym (e x))

pub bind-first : {A B : Type 0} (F : A → Option B) (x : Option A) (y : B) → option_and_then F x ≡ Some y
    → (a : A) × (x ≡ Some a)
bind-first F None y e = absurd (cc)
bind-first F (Some a) y e = (a, refl)

pub cond-some : {A : Type 0} (b : Bool) (x : Option A) (y : A) → cond b x None ≡ Some y → x ≡ Some y
cond-some true x y e = e
cond-some false x y e = absurd (cc)

pub bind-bind : {A B C : Type 0} (o : Option A) (f : A → Option B) (g : B → Option C) →
    option_and_then g (option_and_then f o) ≡ option_and_then (λ x. option_and_then g (f x)) o
bind-bind None f g = refl
bind-bind (Some x) f g = refl

-- three facts of a result that there is
pub on_ok_three : {T E A B C D : Type 0} (r : Result T E) → (A → B → C → D) → OnOk r A → OnOk r B → OnOk r C → OnOk r D
on_ok_three (Ok x) f a b c = f a b c
on_ok_three (Err e) f a b c = tt
