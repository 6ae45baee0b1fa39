-- How the lines of a story are written: for people, with the place, what stands there and what is said of it; or one finding a line, as
-- compilers write them (`line:column: kind: text`, GNU Coding Standards, "Formatting Error Messages").
use Rattle.std.specs.Prelude.{ℕ, ◌+◌, ◌-◌, Bool, false, nat_eq, if◌then◌else◌, List, [], ◌∷◌, ◌++◌, length, take, drop, codes, decimal}
use Rattle.std.specs.Prelude.{Option, None, Some, slice_get, bytes_eq}
use Rattle.std.specs.Option.{option_map_or}
use Rattle.std.specs.List.{before_first, flat_map}
use Rattle.civl_lex.specs.declared.token.Token.{Token as Placed}
use Rattle.civl_places.specs.declared.position.Position.{Position}
use Rattle.civl_places.specs.Lines.{is_feed, line_of, column_of}
use Rattle.civl_verdicts.specs.reports.Lines.{line}
use Rattle.civl_lines.specs.declared.line.Kind.{Kind}
use Rattle.civl_lines.specs.declared.line.Kind.TheVariants as kind
use Rattle.civl_lines.specs.declared.line.Shown.{Shown}
use Rattle.civl_lines.specs.declared.line.Shown.TheVariants.{Nothing, Head, Tokens}
use Rattle.civl_lines.specs.declared.line.Line.{Line}
use Rattle.civl_lines.specs.declared.render.Form.{Form}
use Rattle.civl_lines.specs.declared.render.Form.TheVariants.{Story, Findings}

-- ---- places

-- the line and the column of an offset
abbrev pub position_of : List ℕ → ℕ → Position
position_of bytes offset = record { line = line_of bytes offset; column = column_of bytes offset }

-- where the token with this number begins; behind the last token, where the text ends
abbrev pub offset_of : List ℕ → List Placed → ℕ → ℕ
offset_of bytes tokens number = option_map_or (λ t. t.start) (slice_get tokens number) (length bytes)

abbrev pub place_of : List ℕ → List Placed → ℕ → Position
place_of bytes tokens number = position_of bytes (offset_of bytes tokens number)

-- `line:column`
abbrev pub place_text : Position → List ℕ
place_text p = decimal p.line ++ (codes ":" ++ decimal p.column)

-- ---- what stands there

-- whether a token is spelled so
abbrev pub is_sign : List ℕ → Placed → Bool
is_sign sign token = bytes_eq token.text.now sign

-- of tokens with which a statement begins, how many its head has: up to the first `;`, or to before the first `{`
abbrev pub head_count : List Placed → ℕ
head_count [] = 0
head_count (t ∷ ts) = if is_sign (codes ";") t then 1 else if is_sign (codes "{") t then 0 else head_count ts + 1

-- a line without the carriage return that stands at its end, if one does
abbrev pub without_return : List ℕ → List ℕ
without_return line =
    if option_map_or (λ byte. nat_eq byte 13) (slice_get line (length line - 1)) false then take (length line - 1) line else line

-- the bytes from one offset up to another, without what stands behind a line feed
abbrev pub cut : List ℕ → ℕ → ℕ → List ℕ
cut bytes start end = without_return (before_first is_feed (take (end - start) (drop start bytes)))

-- from one token on to the end of another
abbrev pub from_to : List ℕ → Option Placed → Option Placed → List ℕ
from_to bytes (Some first) (Some last) = cut bytes first.start (last.start + length last.text.now)
from_to bytes (Some first) None = []
from_to bytes None last = []

-- the last of so many of these, if there are so many
abbrev pub last_of : List Placed → ℕ → Option Placed
last_of rest count = if nat_eq count 0 then None else slice_get rest (count - 1)

-- so many of these tokens
abbrev pub tokens_text : List ℕ → List Placed → ℕ → List ℕ
tokens_text bytes rest count = from_to bytes (slice_get rest 0) (last_of rest count)

-- of the token with which these begin
abbrev pub shown_from : List ℕ → List Placed → Shown → List ℕ
shown_from bytes rest Nothing = []
shown_from bytes rest Head = tokens_text bytes rest (head_count rest)
shown_from bytes rest (Tokens count) = tokens_text bytes rest count

-- of the token with this number
abbrev pub shown_text : List ℕ → List Placed → ℕ → Shown → List ℕ
shown_text bytes tokens at shown = shown_from bytes (drop at tokens) shown

-- ---- lines

-- two texts with blanks between them, or the one that isn't empty
abbrev pub beside : List ℕ → List ℕ → List ℕ
beside [] second = second
beside (b ∷ bs) [] = b ∷ bs
beside (b ∷ bs) (c ∷ cs) = (b ∷ bs) ++ (codes "    " ++ (c ∷ cs))

abbrev pub kind_text : Kind → List ℕ
kind_text kind.Info = codes "info"
kind_text kind.Error = codes "error"

-- `line:column  what stands there    what is said`, or `line:column: kind: what stands there    what is said`
abbrev pub line_text : Form → List ℕ → List Placed → Line → List ℕ
line_text Story bytes tokens l =
    line (codes "  " ++ (place_text (place_of bytes tokens l.token) ++ (codes "  " ++ beside (shown_text bytes tokens l.token l.shown) l.text)))
line_text Findings bytes tokens l =
    line (place_text (place_of bytes tokens l.token) ++ (codes ": " ++ (kind_text l.kind ++ (codes ": " ++
    beside (shown_text bytes tokens l.token l.shown) l.text))))

abbrev pub lines_text : Form → List ℕ → List Placed → List Line → List ℕ
lines_text form bytes tokens ls = flat_map (line_text form bytes tokens) ls
