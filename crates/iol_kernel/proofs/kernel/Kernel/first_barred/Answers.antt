use Rattle.std.proofs.Common.{rules, ◌∙◌, None, Some, ap, arith, sym}
use Rattle.std.specs.Prelude.{option_map, if◌then◌else◌}
use Rattle.iol_core.specs.declared.refusals.Refusal.TheVariants.{Denied}
use Rattle.iol_kernel.specs.Kernel.{as_read}
use Rattle.iol_kernel.proofs.Queues.LookUps.{denied-first, denied-none}
use Rattle.iol_kernel.proofs.kernel.Kernel.first_barred.Goals as goal

pub returns-then-count-eq0 : goal.returns-then-count-eq0
returns-then-count-eq0 c =
    λ f keeps. denied-none (as_read f c.args.self.now) c.args.by c.args.count c.args.from.now c.requires (omega arith)

pub returns-in_err-pool : goal.returns-in_err-pool
returns-in_err-pool c =
    λ f keeps. (let none =
    sym (denied-first (as_read f c.args.self.now) c.args.by c.args.count c.args.from.now c.requires (omega arith) None
    (search (rules, c.in_err-pool.ensures f keeps))) in search (rules, none))

pub returns-then-may_read : goal.returns-then-may_read
returns-then-may_read c = λ f keeps.
    sym (denied-first (as_read f c.args.self.now) c.args.by c.args.count c.args.from.now c.requires (omega arith)
    (Some c.in_ok-pool.pool) (c.in_ok-pool.ensures f keeps)
    ∙ ap (λ b. option_map Denied (if b then None else Some c.in_ok-pool.pool)) (sym (c.may_read.ensures f)
    ∙ c.if-may_read.true))

pub returns : goal.returns
returns c = λ f keeps.
    sym (denied-first (as_read f c.args.self.now) c.args.by c.args.count c.args.from.now c.requires (omega arith)
    (Some c.in_ok-pool.pool) (c.in_ok-pool.ensures f keeps)
    ∙ ap (λ b. option_map Denied (if b then None else Some c.in_ok-pool.pool)) (sym (c.may_read.ensures f)
    ∙ c.if-may_read.false))
