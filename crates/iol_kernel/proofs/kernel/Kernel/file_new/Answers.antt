use Rattle.std.proofs.Common.{rules, ◌≡◌, subst, sym, ℕ}
use Rattle.std.specs.Prelude.{Result, Err}
use Rattle.iol_core.specs.Calls.Files as calls
use Rattle.iol_core.specs.declared.refusals.Refusal.{Refusal}
use Rattle.iol_core.specs.declared.refusals.Refusal.TheVariants as refuse
use Rattle.iol_kernel.specs.Calls.{Names}
use Rattle.iol_kernel.specs.Kernel.{state_of}
use Rattle.iol_kernel.proofs.FileCalls.NewFiles.{names, refused_always, refused_memory, refused_reported}
use Rattle.iol_kernel.proofs.kernel.Kernel.file_new.Goals as goal

pub returns-then-not-is_live-clause-names : goal.returns-then-not-is_live-clause-names
returns-then-not-is_live-clause-names g c =
    refused_always (g.B.Backing.disk c.args.backing.now) (λ s. calls.file_new s c.args.by c.args.name.now c.args.pool)
    (state_of c.args.self.now) refuse.NoDomain (λ f. search rules) (λ p e. cc e) c.requires

pub returns-then-not-is_pool-clause-names : goal.returns-then-not-is_pool-clause-names
returns-then-not-is_pool-clause-names g c =
    refused_always (g.B.Backing.disk c.args.backing.now) (λ s. calls.file_new s c.args.by c.args.name.now c.args.pool)
    (state_of c.args.self.now) refuse.NoPool (λ f. search rules) (λ p e. cc e) c.requires

pub returns-then-is_named-clause-names : goal.returns-then-is_named-clause-names
returns-then-is_named-clause-names g c =
    refused_always (g.B.Backing.disk c.args.backing.now) (λ s. calls.file_new s c.args.by c.args.name.now c.args.pool)
    (state_of c.args.self.now) refuse.WrongMode (λ f. search rules) (λ p e. cc e) c.requires

pub returns-then-len-eq0-clause-names : goal.returns-then-len-eq0-clause-names
returns-then-len-eq0-clause-names g c =
    refused_always (g.B.Backing.disk c.args.backing.now) (λ s. calls.file_new s c.args.by c.args.name.now c.args.pool)
    (state_of c.args.self.now) refuse.BadRange (λ f. search rules) (λ p e. cc e) c.requires

pub returns-then-is_next_too_long-clause-names : goal.returns-then-is_next_too_long-clause-names
returns-then-is_next_too_long-clause-names g c =
    refused_reported (g.B.Backing.disk c.args.backing.now) (state_of c.args.self.now) c.args.by c.args.pool
    c.args.name.now c.is_next_too_long.ensures c.requires refuse.TooLong (λ f length. search (rules, length))
    (λ p e. cc e)

pub returns-then-file_count-ge-MAX_FILES-clause-names : goal.returns-then-file_count-ge-MAX_FILES-clause-names
returns-then-file_count-ge-MAX_FILES-clause-names g c =
    refused_reported (g.B.Backing.disk c.args.backing.now) (state_of c.args.self.now) c.args.by c.args.pool
    c.args.name.now c.is_next_too_long.ensures c.requires refuse.TooMany (λ f length. search (rules, length))
    (λ p e. cc e)

pub returns-then-not-may_read-clause-names : goal.returns-then-not-may_read-clause-names
returns-then-not-may_read-clause-names g c =
    refused_reported (g.B.Backing.disk c.args.backing.now) (state_of c.args.self.now) c.args.by c.args.pool
    c.args.name.now c.is_next_too_long.ensures c.requires (refuse.Denied c.args.pool)
    (λ f length. search (rules, length)) (λ p e. cc e)

pub returns-then-is_closed-clause-names : goal.returns-then-is_closed-clause-names
returns-then-is_closed-clause-names g c =
    refused_reported (g.B.Backing.disk c.args.backing.now) (state_of c.args.self.now) c.args.by c.args.pool
    c.args.name.now c.is_next_too_long.ensures c.requires (refuse.PoolClosed c.args.pool)
    (λ f length. search (rules, length)) (λ p e. cc e)

pub returns-in_err-add_file-clause-names : goal.returns-in_err-add_file-clause-names
returns-in_err-add_file-clause-names g c =
    let h = state_of c.args.self.now in
    let disk = g.B.Backing.disk c.args.backing.now in
    let kept = refused_memory disk h c.args.by c.args.pool c.args.name.now c.is_next_too_long.ensures c.requires
    (state_of c.add_file.new.self) (λ f length. search (rules, length)) c.in_err-add_file.ensures.err in
    let same : c.from_residual.result ≡ Err refuse.Memory = search rules in
    subst (λ (r : Result ℕ Refusal). Names disk (λ s. calls.file_new s c.args.by c.args.name.now c.args.pool) h r
    (state_of c.add_file.new.self)) (sym same) kept

pub returns-clause-names : goal.returns-clause-names
returns-clause-names g c =
    let made = names (g.B.Backing.disk c.args.backing.now) (state_of c.args.self.now) c.args.by c.args.pool
    c.args.name.now c.is_next_too_long.ensures c.requires (state_of c.add_file.new.self) c.in_ok-add_file.field-0
    (λ f length. search (rules, length)) c.in_ok-add_file.ensures.done in
    search (rules, made)
