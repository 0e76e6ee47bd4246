use Rattle.std.proofs.Common.{◌≡◌, All, length}
use Rattle.httparse.specs.Spans.{IsHeaderWithin}
use Rattle.flash_http.specs.Fields.{values_at}
use Rattle.flash_http.proofs.fields.next_value.Given as goal

-- no field that was skipped has the name
abbrev pub invariant-loop-spans : goal.invariant-loop-spans
invariant-loop-spans l = record {
  within : All (IsHeaderWithin (length l.head)) l.spans;
  same : values_at l.name l.head l.spans ≡ values_at l.name l.head l.fn.spans;
}

abbrev pub decreases-loop-spans : goal.decreases-loop-spans
decreases-loop-spans l = length l.spans
