-- The response with the output of a script (RFC 9112, sections 6.3 and 7.1): in chunks of 4,096 bytes and one of the
-- rest, or, for a client of HTTP/1.0, the bytes up to the close of the connection.
use Rattle.std.specs.Prelude.{ℕ, zero, suc, Bool, true, false, List, [], ◌∷◌, ◌++◌, length, take, drop, Some, None}
use Rattle.flash_http.specs.Chunk.{chunk_head, chunk_end, last_chunk, chunked_body}
use Rattle.flash_http.specs.Request.{Wanted}
unfoldable pub use Rattle.flash_laws.specs.Answers.{script_text}
use Rattle.flash_laws.specs.Conn.{Following}
use Rattle.flash_laws.specs.declared.script_run.TheConstants.{CHUNK_BYTES}

-- cut after each 4,096 bytes, into at most that many pieces
abbrev pub pieces_by : (most : ℕ) → List ℕ → List (List ℕ)
pieces_by zero bytes = []
pieces_by (suc most) [] = []
pieces_by (suc most) (b ∷ bytes) = take CHUNK_BYTES (b ∷ bytes) ∷ pieces_by most (drop CHUNK_BYTES (b ∷ bytes))

-- cut after each 4,096 bytes
abbrev pub pieces : List ℕ → List (List ℕ)
pieces bytes = pieces_by (length bytes) bytes

abbrev pub script_body : (chunked : Bool) → (output : List ℕ) → List ℕ
script_body true output = chunked_body (pieces output)
script_body false output = output

-- The response to a request for a script with this output.
abbrev pub script_response : Wanted → (output : List ℕ) → List ℕ
script_response w output = script_text w ++ script_body w.chunked output

-- ---- the bytes that the server adds to the output

-- the text around size bytes of a chunk, with a place for them
abbrev pub frame_of : (size : ℕ) → List ℕ
frame_of size = chunk_head size ++ chunk_end

abbrev pub place_in_frame : (size : ℕ) → ℕ
place_in_frame size = length (chunk_head size)

-- the end of a chunked body: the last chunk, preceded by the frame of the remaining bytes
abbrev pub end_around : (held : Following) → List ℕ
end_around None = last_chunk
end_around (Some x) = chunk_head x.1 ++ (chunk_end ++ last_chunk)
