use Rattle.std.proofs.Common.{string_bytes}
use Rattle.iolite.proofs.ScriptText.{script-is_given, refused-is_no_script}
use Rattle.iolite.proofs.replay.read_text.Goals as goal

pub returns-clause-whole : goal.returns-clause-whole
returns-clause-whole g c =
    script-is_given string_bytes (g.R.Read.remaining c.args.input.now) _ c.text_of.result c.in_ok-bytes.ensures.bytes
    c.text_of.ensures.text c.text_of.ensures.script

pub returns-clause-bad : goal.returns-clause-bad
returns-clause-bad g c =
    refused-is_no_script (g.R.Read.remaining c.args.input.now) _ c.text_of.result _ c.in_ok-bytes.ensures.bytes
    c.text_of.ensures.bad
