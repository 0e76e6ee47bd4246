-- The result of parsing: a value with property P, or none, exactly if no value has property P.
use Rattle.std.specs.Prelude.{◌≡◌, Option, None, IfSome}

pub record Reads {A : Type 0} (P : A → Type 0) (r : Option A) : Type 0 where
  pub some : IfSome r P
  pub none : r ≡ None → (x : A) → ¬ (P x)

-- The same for a parsed value whose texts are still encoded, and which can be decoded. P is a property of its meaning.
pub record ReadsAs {A B : Type 0} (P : B → Type 0) (meant : A → B) (Can : A → Type 0) (r : Option A) : Type 0 where
  pub some : IfSome r (λ x. P (meant x))
  pub can : IfSome r Can
  pub none : r ≡ None → (y : B) → ¬ (P y)
