-- C gets no refusal for lack of memory for a call that needs none.
use Rattle.std.proofs.Common.{inl, inr, ◌≡◌, ◌∙◌, ℕ, None, Some, ap, arith, refl, subst, sym}
use Rattle.std.specs.Prelude.{Result, Ok, Err}
use Rattle.iol_core.specs.declared.refusals.Refusal.{Refusal}
use Rattle.iol_core.specs.declared.refusals.Refusal.TheVariants as refusal
use Rattle.iol_system.specs.Machine.{SystemState}
use Rattle.iol_ffi.specs.Memory.{NeedsAsPassed, NeedsNone}
use Rattle.iol_ffi.specs.Replies.{CountsRead, CountsShown, number_of}
use Rattle.iol_ffi.specs.declared.events.IolEvent.{IolEvent}
use Rattle.iol_ffi.specs.declared.events.Request.{Request}
use Rattle.iol_ffi.specs.declared.events.Request.TheVariants as request
use Rattle.iol_ffi.specs.declared.replies.IolReply.{IolReply}

-- only one refusal has this number
is_memory : (why : Refusal) → number_of why ≡ 17 → why ≡ refusal.Memory
is_memory refusal.NoDomain is = absurd (omega (arith, is))
is_memory refusal.BadFd is = absurd (omega (arith, is))
is_memory refusal.BadAgg is = absurd (omega (arith, is))
is_memory refusal.NoPool is = absurd (omega (arith, is))
is_memory refusal.NoFile is = absurd (omega (arith, is))
is_memory refusal.WrongMode is = absurd (omega (arith, is))
is_memory refusal.BadRange is = absurd (omega (arith, is))
is_memory refusal.TooLong is = absurd (omega (arith, is))
is_memory refusal.TooMany is = absurd (omega (arith, is))
is_memory (refusal.Denied p) is = absurd (omega (arith, is))
is_memory (refusal.PoolClosed p) is = absurd (omega (arith, is))
is_memory (refusal.PoolBusy p) is = absurd (omega (arith, is))
is_memory refusal.BrokenPipe is = absurd (omega (arith, is))
is_memory refusal.WouldBlock is = absurd (omega (arith, is))
is_memory (refusal.NoRoom p) is = absurd (omega (arith, is))
is_memory (refusal.Fault f) is = absurd (omega (arith, is))
is_memory refusal.Memory is = refl

refused : (why : Refusal) (r : IolReply) → r.refusal ≡ number_of why
    → (◌≡◌ {A = Result ℕ Refusal} (Err why) (Err refusal.Memory) → ⊥) → r.refusal ≡ 17 → ⊥
refused why r reported not is = not (ap (λ (w : Refusal). Err w) (is_memory why (sym reported ∙ is)))

pub read_not_memory : (o : Result ℕ Refusal) (r : IolReply) → CountsRead o r → (o ≡ Err refusal.Memory → ⊥)
    → r.refusal ≡ 17 → ⊥
read_not_memory (Ok n) r done not is = omega (arith, done.0, is)
read_not_memory (Err why) r reported not is = refused why r reported.0 not is

pub shown_not_memory : (o : Result ℕ Refusal) (room : ℕ) (r : IolReply) → CountsShown o room r
    → (o ≡ Err refusal.Memory → ⊥) → r.refusal ≡ 17 → ⊥
shown_not_memory (Ok n) room r (inl (done, few)) not is = omega (arith, done.0, is)
shown_not_memory (Ok n) room r (inr (short, number, less)) not is = omega (arith, short, is)
shown_not_memory (Err why) room r reported not is = refused why r reported.0 not is

-- the claim holds for a request that may need memory
pub not_needed : (q p : Request) (s : SystemState) (r : IolReply) → q ≡ p → (NeedsNone p s → ⊥) → NeedsNone q s
    → r.refusal ≡ 17 → ⊥
not_needed q p s r same not none is = not (subst (λ (w : Request). NeedsNone w s) same none)

pub passed_show : (e : IolEvent) (by agg : ℕ) → NeedsAsPassed e (request.Show by agg)
passed_show e by agg None none = none
passed_show e by agg (Some m) none = tt

pub passed_read : (e : IolEvent) → e.kind ≡ 25 → NeedsAsPassed e (request.Read e.by e.id e.from)
passed_read e kind None none = none
passed_read e kind (Some m) (inl show) = absurd (omega (arith, kind, show))
passed_read e kind (Some m) (inr (read, of_no_file)) = of_no_file

pub passed_other : (e : IolEvent) (q : Request) → (e.kind ≡ 14 → ⊥) → (e.kind ≡ 25 → ⊥) → NeedsAsPassed e q
passed_other e q not_show not_read None none = absurd none
passed_other e q not_show not_read (Some m) (inl show) = absurd (not_show show)
passed_other e q not_show not_read (Some m) (inr (read, of_no_file)) = absurd (not_read read)
