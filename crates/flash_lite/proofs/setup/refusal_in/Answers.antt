use Rattle.std.proofs.Common.{◌<◌, ◌∙◌, length, sym, arith}
use Rattle.flash_lite.proofs.Calls.FirstRefusal.{refused_at, none_more, not_refused}
use Rattle.flash_lite.proofs.setup.refusal_in.Goals as goal

pub returns-in-Refused : goal.returns-in-Refused
returns-in-Refused c =
    let within : c.loop-reply.reply-index < length c.args.replies.now = omega (arith, c.loop-reply-test.true) in
    sym (refused_at c.args.replies.now c.loop-reply.reply-index c.in-Refused.refusal c.reply-item.result within
    c.loop-reply.invariant (sym c.reply-item.is ∙ c.in-Refused.is))

pub loop-reply-preserved : goal.loop-reply-preserved
loop-reply-preserved c =
    let within : c.loop-reply.reply-index < length c.args.replies.now = omega (arith, c.loop-reply-test.true) in
    none_more c.args.replies.now c.loop-reply.reply-index c.reply-item.result within c.loop-reply.invariant
    (not_refused c.reply-item.result _ c.reply-item.is (λ x is. c.in_default.not-Refused x is))
