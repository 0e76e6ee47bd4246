-- The head of a response, and the body of a refusal (RFC 9110; RFC 9112, sections 4 to 6: a line ends with CR LF).
use Rattle.std.specs.Prelude.{ℕ, ◌+◌, ◌-◌, ◌==◌, ◌||◌, not, Bool, List, [], ◌++◌, length, codes, decimal, Option, Some}
use Rattle.std.specs.Prelude.{None, if◌then◌else◌}
use Rattle.http.specs.StatusCode.{status_text}
use Rattle.flash_http.specs.declared.names.MediaType.{MediaType}
use Rattle.flash_http.specs.declared.names.MediaType.TheVariants.{PlainText}
use Rattle.flash_http.specs.declared.ranges.Selection.{Selection}
use Rattle.flash_http.specs.declared.ranges.Selection.TheVariants as select
use Rattle.flash_http.specs.declared.responses.Framing.{Framing}
use Rattle.flash_http.specs.declared.responses.Framing.TheVariants.{Length, Chunked, UntilClose}
use Rattle.flash_http.specs.declared.responses.ContentRange.{ContentRange}
use Rattle.flash_http.specs.declared.responses.ContentRange.TheVariants.{Bytes, Unsatisfied}
use Rattle.flash_http.specs.declared.responses.ResponseHead.{ResponseHead}
use Rattle.flash_http.specs.MediaType.{media_text}

-- ---- the lines, each with its end; an absent line is empty

-- the indication of the end of the body (RFC 9112, section 6.3)
abbrev pub framing_line : Framing → List ℕ
framing_line (Length len) = codes "Content-Length: " ++ (decimal len ++ codes "\r\n")
framing_line Chunked = codes "Transfer-Encoding: chunked\r\n"
framing_line UntilClose = []

-- RFC 9110, section 14.4
abbrev pub range_line : Option ContentRange → List ℕ
range_line None = []
range_line (Some (Bytes first last len)) =
    codes "Content-Range: bytes " ++ (decimal first ++ (codes "-" ++ (decimal last ++ (codes "/" ++ (decimal len
    ++ codes "\r\n")))))
range_line (Some (Unsatisfied len)) = codes "Content-Range: bytes */" ++ (decimal len ++ codes "\r\n")

-- with 405 Method Not Allowed (RFC 9110, section 10.2.1)
unfoldable pub allow_line : (status : ℕ) → List ℕ
allow_line status = if status == 405 then codes "Allow: GET, HEAD\r\n" else []

-- RFC 9112, section 9.6
unfoldable pub connection_line : (close : Bool) → List ℕ
connection_line close = if close then codes "Connection: close\r\n" else []

-- The text of a head.
abbrev pub head_text : ResponseHead → List ℕ
head_text h =
    codes "HTTP/1.1 " ++ (status_text h.status
    ++ (codes "\r\nContent-Type: " ++ (media_text h.media_type
    ++ (codes "\r\n" ++ (framing_line h.framing ++ (range_line h.range
    ++ (allow_line h.status ++ (connection_line h.close ++ codes "\r\n"))))))))

-- ---- the heads by kind of response

-- the body of a refusal: its status line
abbrev pub error_body : (status : ℕ) → List ℕ
error_body status = status_text status ++ codes "\n"

abbrev pub refusal_head : (status : ℕ) → (close : Bool) → ResponseHead
refusal_head status close = record {
  status = status;
  media_type = PlainText;
  framing = Length (length (error_body status));
  range = None;
  close = close;
}

-- for a file of len bytes: 200 OK, 206 Partial Content or 416 Range Not Satisfiable (RFC 9110, section 15)
abbrev pub file_head : MediaType → Selection → (len : ℕ) → (close : Bool) → ResponseHead
file_head media select.Whole len close = record {
  status = 200;
  media_type = media;
  framing = Length len;
  range = None;
  close = close;
}
file_head media (select.Bytes first last) len close = record {
  status = 206;
  media_type = media;
  framing = Length (last - first + 1);
  range = Some (Bytes first last len);
  close = close;
}
file_head media select.Unsatisfiable len close = record (refusal_head 416 close) { range = Some (Unsatisfied len) }

-- for a script, whose output has unknown length: in chunks, or up to the close of the connection, which the head then
-- announces (RFC 9112, section 6.3)
abbrev pub script_head : (chunked close : Bool) → ResponseHead
script_head chunked close = record {
  status = 200;
  media_type = PlainText;
  framing = (if chunked then Chunked else UntilClose);
  range = None;
  close = close || not chunked;
}
