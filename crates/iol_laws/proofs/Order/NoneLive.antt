-- If no domain is live, no domain has an aggregate or a descriptor, and no pipe is left; a remaining connection was
-- closed, or never accepted.
use Rattle.std.proofs.Common.{◌≡◌, ◌∙◌, ℕ, ap, refl, Option, Some, None, true, false, Bool}
use Rattle.std.specs.Prelude.{unwrap_or, ◌||◌}
use Rattle.iol_core.specs.NumberedLists.{in_place}
use Rattle.iol_core.specs.State.{State, Pipe, domain, is_live, pipe_at, no_domain, no_pipe}
use Rattle.iol_core.specs.Calls.Writes.{is_file}
use Rattle.iol_core.specs.declared.descriptors.Descriptor.{Descriptor}
use Rattle.iol_core.specs.declared.descriptors.Descriptor.TheVariants as on
use Rattle.iol_laws.specs.Order.{IsOrderly, stands}

abbrev pub NoneLive : State → Type 0
NoneLive s = (d : ℕ) → is_live s d ≡ false

pub domain-none : (s : State) → IsOrderly s → NoneLive s → (d : ℕ) → domain s d ≡ no_domain
domain-none s order dead d = order.gone d (dead d)

-- if no domain is live, no end of a pipe and no accepted connection exists
pub none-stands : (s : State) → IsOrderly s → NoneLive s → (x : Descriptor) → is_file (Some x) ≡ false
    → stands s x ≡ true → ⊥
none-stands s order dead x end is = (let it = order.held x end is in let live = it.live in let off = dead it.by in
    cc (live, off))

pipe-there : (s : State) (p : ℕ) (x : Pipe) → in_place s.pipes p ≡ Some x → pipe_at s p ≡ x
unfolding pipe_at
pipe-there s p x is = ap (λ (o : Option Pipe). unwrap_or o no_pipe) is

pub pipe-none : (s : State) → IsOrderly s → NoneLive s → (p : ℕ) → in_place s.pipes p ≡ None
pipe-none s order dead p = by (in_place s.pipes p) refl
  where
    ended : (x : Pipe) (a b : Bool) → x.reading ≡ a → x.writing ≡ b → pipe_at s p ≡ x → (a || b) ≡ true → ⊥
    ended x true b reads writes there some =
        none-stands s order dead (on.ReadEnd p) refl (ap (λ (k : Pipe). k.reading) there ∙ reads)
    ended x false true reads writes there some =
        none-stands s order dead (on.WriteEnd p) refl (ap (λ (k : Pipe). k.writing) there ∙ writes)
    ended x false false reads writes there some = cc

    by : (o : Option Pipe) → in_place s.pipes p ≡ o → in_place s.pipes p ≡ None
    by None is = is
    by (Some x) is = absurd (ended x x.reading x.writing refl refl (pipe-there s p x is) (order.ends p x is))
