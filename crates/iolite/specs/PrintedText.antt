-- The printed texts of replies and reports, each on lines of its own.
use Rattle.std.specs.Prelude.{ℕ, ◌/◌, ◌%◌, false, List, [], ◌∷◌, ◌++◌, codes}
use Rattle.std.specs.List.{flat_map}
use Rattle.std.specs.Fmt.{decimal, digits}
use Rattle.percent_encoding.specs.Percent.{percent_encode}
use Rattle.iol_core.specs.Refusals.{name_of}
use Rattle.iol_core.specs.declared.events.Reply.{Reply}
use Rattle.iol_core.specs.declared.events.Reply.TheVariants as reply
use Rattle.iol_core.specs.declared.refusals.Refusal.{Refusal}
use Rattle.iol_core.specs.declared.refusals.Refusal.TheVariants.{Denied, PoolClosed, PoolBusy, NoRoom, Fault}
use Rattle.iol_system.specs.Prelude.{PoolReport, Report}
use Rattle.iolite.specs.declared.lines.TheConstants.{ESCAPED}
use Rattle.iolite.specs.declared.replay.Answer.{Answer}
use Rattle.iolite.specs.declared.replay.Answer.TheVariants as answer

abbrev pub hexadecimal : ℕ → List ℕ
hexadecimal n = digits 16 false n

-- bytes at the end of a line, after a space, percent-encoded; empty for no bytes
abbrev pub bytes_text : List ℕ → List ℕ
bytes_text [] = []
bytes_text (b ∷ bs) = codes " " ++ percent_encode ESCAPED (b ∷ bs)

-- the four hexadecimal digits of a number below 2^16
abbrev pub four_digits : ℕ → List ℕ
four_digits n = hexadecimal (n / 4096) ++ hexadecimal (n / 256 % 16) ++ hexadecimal (n / 16 % 16)
    ++ hexadecimal (n % 16)

-- its name, and the number of the pool or file
abbrev pub refusal_text : Refusal → List ℕ
refusal_text (Denied p) = codes "Denied pool " ++ decimal p
refusal_text (PoolClosed p) = codes "PoolClosed pool " ++ decimal p
refusal_text (PoolBusy p) = codes "PoolBusy pool " ++ decimal p
refusal_text (NoRoom p) = codes "NoRoom pool " ++ decimal p
refusal_text (Fault f) = codes "Fault file " ++ decimal f
refusal_text x = name_of x

abbrev pub reply_text : Reply → List ℕ
reply_text reply.Done = codes "done"
reply_text (reply.Domain d) = codes "domain " ++ decimal d
reply_text (reply.Pool p) = codes "pool " ++ decimal p
reply_text (reply.File f) = codes "file " ++ decimal f
reply_text (reply.Conn c) = codes "conn " ++ decimal c
reply_text (reply.Fd fd) = codes "fd " ++ decimal fd
reply_text (reply.Fds read write) = codes "fds " ++ decimal read ++ codes " " ++ decimal write
reply_text (reply.Agg a) = codes "agg " ++ decimal a
reply_text (reply.Aggs front back) = codes "aggs " ++ decimal front ++ codes " " ++ decimal back
reply_text (reply.Count n) = codes "count " ++ decimal n
reply_text (reply.Bytes bytes) = codes "bytes" ++ bytes_text bytes
reply_text (reply.Segment bytes checksum) = codes "segment " ++ four_digits checksum ++ bytes_text bytes
reply_text (reply.Refused x) = codes "refused " ++ refusal_text x

abbrev pub newline : List ℕ
newline = 10 ∷ []

-- one line for each pool
abbrev pub pool_line : PoolReport → List ℕ
pool_line p = codes "pool " ++ decimal p.pool ++ codes " pages " ++ decimal p.pages
    ++ codes " free " ++ decimal p.free ++ codes " retired " ++ decimal p.retired ++ newline

-- and a last line
abbrev pub report_text : Report → List ℕ
report_text r = flat_map pool_line r.pools.items
    ++ codes "extents " ++ decimal r.extents ++ codes " dirty " ++ decimal r.dirty ++ codes " buffers "
    ++ decimal r.buffers

abbrev pub answer_text : Answer → List ℕ
answer_text (answer.Reply r) = reply_text r
answer_text (answer.Report r) = report_text r

-- the printed text of results: the text of each, in order, followed by a line feed
abbrev pub lines_of : List Answer → List ℕ
lines_of answers = flat_map (λ a. answer_text a ++ newline) answers
