-- The first page of the buffer on a page.
use Rattle.std.specs.Prelude.{ℕ, Option, Some, None}
use Rattle.iol_arena.specs.declared.pages.PageKind as kind
use Rattle.iol_arena.specs.declared.pages.PageKind.TheVariants.{Free, Pending, Head, Tail}

-- the first page of the buffer on page q, by the kind of q: none if q is in no buffer
abbrev pub first_on : kind.PageKind → (q : ℕ) → Option ℕ
first_on Free q = None
first_on Pending q = None
first_on (Head n) q = Some q
first_on (Tail p) q = Some p
