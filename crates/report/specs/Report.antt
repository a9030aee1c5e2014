-- What the program `shortlist` writes, byte for byte, for every input. Document 01, the end of "The small library"; document 02, M-108.
use Rattle.std.specs.Prelude.{ℕ, zero, suc, ◌+◌, ◌/◌, ◌%◌, min, List, [], ◌∷◌, ◌++◌, cond, length, take, drop, ltb}
use Rattle.bits.specs.Bits.{number_at}
use Rattle.model.specs.Lists.{part, overwrite}
use Rattle.model.specs.Outcome.{Outcome, answered, refused, and_then}
use Rattle.model.specs.Rows.{height}
use Rattle.model.specs.Opening.{opened}
use Rattle.model.specs.Queries.{of_terms, bounds_of}
use Rattle.model.specs.TopK.{top_k, Ended, done_with, spent_with, Found, found_of, with_places}

-- ---- numbers and lines

-- the digits of a number below the fuel, the most significant first; 48 is '0'
abbrev pub digits_of : ℕ → ℕ → List ℕ
digits_of zero n = []
digits_of (suc fuel) n = cond (ltb n 10) ((48 + n) ∷ []) (digits_of fuel (n / 10) ++ (48 + n % 10) ∷ [])

-- a number in decimal digits, without leading zeros
unfoldable pub decimal : ℕ → List ℕ
decimal n = digits_of (suc n) n

-- a document, its count and its first place, with a space between and a line feed
abbrev pub line_of : ℕ → ℕ → ℕ → List ℕ
line_of document count place = decimal document ++ 32 ∷ decimal count ++ 32 ∷ decimal place ++ 10 ∷ []

-- the numbers of an answer, three a line (M-108); what does not fill a line has none
abbrev pub lines_of : List ℕ → List ℕ
lines_of [] = []
lines_of (document ∷ []) = []
lines_of (document ∷ count ∷ []) = []
lines_of (document ∷ count ∷ place ∷ numbers) = line_of document count place ++ lines_of numbers

-- the last line: a word with its space, and a number
abbrev pub last_line : List ℕ → ℕ → List ℕ
last_line word n = word ++ decimal n ++ 10 ∷ []

-- 'done ', 'spent ' and 'refused ' in ASCII
abbrev pub done_word : List ℕ
done_word = 100 ∷ 111 ∷ 110 ∷ 101 ∷ 32 ∷ []

abbrev pub spent_word : List ℕ
spent_word = 115 ∷ 112 ∷ 101 ∷ 110 ∷ 116 ∷ 32 ∷ []

abbrev pub refused_word : List ℕ
refused_word = 114 ∷ 101 ∷ 102 ∷ 117 ∷ 115 ∷ 101 ∷ 100 ∷ 32 ∷ []

-- ---- the report

-- the shortlist of the terms f to l, with the first places in their range
abbrev pub shortlist_of : List ℕ → ℕ → ℕ → ℕ → ℕ → Outcome (Found Ended)
shortlist_of bytes f l k allowance =
    and_then (opened bytes)
    (λ lib.
    and_then (bounds_of lib (of_terms f l))
    (λ r.
    let xs = part r.from r.to lib.entries in
    answered (found_of (with_places r.from xs) lib.documents (top_k (height lib.documents) lib.documents xs k allowance))))

-- f, l, k and the allowance, then an archive
abbrev pub answer_to : List ℕ → Outcome (Found Ended)
answer_to input = shortlist_of (drop 16 input) (number_at input 0) (number_at input 4) (number_at input 8) (number_at input 12)

-- 'done' or 'spent' and its number
abbrev pub end_line : Ended → List ℕ
end_line (done_with listed openings) = last_line done_word openings
end_line (spent_with listed allowance) = last_line spent_word allowance

-- one line a document, then the end; or 'refused' and its number alone
abbrev pub text_of : Outcome (Found Ended) → List ℕ
text_of (answered found) = lines_of found.numbers ++ end_line found.answer
text_of (refused number) = last_line refused_word number

-- an input over 65,536 bytes, one under 56, and any other
abbrev pub report : List ℕ → List ℕ
report input =
    cond (ltb 65536 (length input)) (last_line refused_word 0)
    (cond (ltb (length input) 56) (last_line refused_word 1)
    (text_of (answer_to input)))

-- how many bytes are written, and the final content of a slice: the text in its front, as far as it has room
pub record Shown : Type 0 where
  pub size : ℕ
  pub output : List ℕ

abbrev pub shown : List ℕ → List ℕ → Shown
shown text output = record { size = min (length text) (length output); output = take (length output) (overwrite text output) }

-- the same, where there is room for the whole text
abbrev pub written : List ℕ → List ℕ → Shown
written text output = record { size = length text; output = overwrite text output }
