use Rattle.std.proofs.Common.{ap, ◌∙◌}
use Rattle.flash_http.specs.Request.{wanted}
use Rattle.flash_http.specs.Response.{head_text}
use Rattle.flash_http.specs.declared.responses.ResponseHead.{ResponseHead}
use Rattle.flash_lite.proofs.Responses.Texts.{file_text_is}
use Rattle.flash_lite.proofs.conn.answers.file_text.Goals as goal

pub returns : goal.returns
returns c = c.in_ok-bytes_of_head.ensures
    ∙ (ap (λ (h : ResponseHead). head_text h) c.head_for-head.ensures
    ∙ file_text_is (wanted c.args.request.now) c.args.len)
