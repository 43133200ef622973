-- A set's readable text, and the page that it is put on.
-- Assumes nothing.
use Rattle.std.specs.Prelude.{ℕ, ◌*◌, cond, ◌&&◌, List, [], ◌++◌, length, drop, eqb, leb}
use Rattle.laws.specs.Lists.{flat}
use Rattle.rules.specs.declared.Stream.{Stream}
use Rattle.rules.specs.declared.Set.{Set}
use Rattle.rules.specs.declared.Refusal.TheVariants.{OutOfRule, ShortBuffer}
use Rattle.std.specs.Prelude.{Result, Ok, Err}
use Rattle.rules.specs.declared.Refusal.{Refusal}
use Rattle.rules.specs.Streams.{streams_of, valid}
use Rattle.ascii.specs.Decimal.{newline}
use Rattle.text_tidy.specs.Tidied.{row_room}
use Rattle.text_line.specs.Lines.{stream_text, version_text}

-- one stream a line, in order
abbrev pub line_text : Stream → List ℕ
line_text s = stream_text s ++ newline

-- "Version 2 has `version 2` as its first line"
abbrev pub first_text : ℕ → List ℕ
first_text version = cond (eqb version 2) (version_text ++ newline) []

unfoldable pub text_of : Set → List ℕ
text_of x = first_text x.version ++ flat line_text (streams_of x)

-- room for the text of any set, which has at most 17 lines
abbrev pub text_room : ℕ
text_room = 17 * row_room

-- 7 for an invalid set, then 11 for a page with less than that
unfoldable pub list_of : Set → ℕ → Result ℕ Refusal
list_of x room = cond (valid x) (cond (leb text_room room) (Ok (length (text_of x))) (Err ShortBuffer)) (Err OutOfRule)

-- the text at the front of the page, and the rest as it was; a refused one changes nothing
unfoldable pub page_of : Set → List ℕ → List ℕ
page_of x page = cond (valid x && leb text_room (length page)) (text_of x ++ drop (length (text_of x)) page) page
