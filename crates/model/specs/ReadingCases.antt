-- Worked readings of questions with and, or, not, document 02, M-104, proved on the definitions: what is read as what, what has no reading, and the ends of
-- depth and length.
use Rattle.std.specs.Prelude.{ℕ, zero, suc, ◌≡◌, refl, List, [], ◌∷◌, ◌++◌, map, length, replicate}
use Rattle.std.proofs.Math.Option.{none, some}
use Rattle.model.specs.Grammar.{Expression, term, complement, both, either}
use Rattle.model.specs.Reading.{reading}

-- ---- the marks

abbrev pub AND : ℕ
AND = 60000

abbrev pub OR : ℕ
OR = 60001

abbrev pub NOT : ℕ
NOT = 60002

abbrev pub OPEN : ℕ
OPEN = 60003

abbrev pub CLOSE : ℕ
CLOSE = 60004

-- so many brackets around a question
abbrev pub nested : ℕ → List ℕ → List ℕ
nested depth inside = replicate depth OPEN ++ inside ++ replicate depth CLOSE

-- ---- readings

abbrev read : List (List ℕ)
read =
    (7 ∷ AND ∷ NOT ∷ 8 ∷ OR ∷ 9 ∷ [])
    ∷ (1 ∷ OR ∷ 2 ∷ OR ∷ 3 ∷ AND ∷ 4 ∷ AND ∷ 5 ∷ [])
    ∷ (1 ∷ AND ∷ 2 ∷ OR ∷ 3 ∷ AND ∷ 4 ∷ [])
    ∷ (1 ∷ OR ∷ OPEN ∷ 2 ∷ OR ∷ 3 ∷ CLOSE ∷ AND ∷ 4 ∷ [])
    ∷ (1 ∷ AND ∷ OPEN ∷ 2 ∷ AND ∷ 3 ∷ CLOSE ∷ [])
    ∷ (NOT ∷ NOT ∷ OPEN ∷ 1 ∷ OR ∷ 2 ∷ CLOSE ∷ AND ∷ 3 ∷ [])
    ∷ (NOT ∷ 1 ∷ OR ∷ 2 ∷ AND ∷ NOT ∷ NOT ∷ 3 ∷ [])
    ∷ (1 ∷ AND ∷ NOT ∷ OPEN ∷ 2 ∷ OR ∷ 3 ∷ AND ∷ NOT ∷ OPEN ∷ 4 ∷ OR ∷ 5 ∷ CLOSE ∷ CLOSE ∷ [])
    ∷ (0 ∷ [])
    ∷ (4095 ∷ [])
    ∷ nested 8 (1 ∷ [])
    ∷ (nested 8 (1 ∷ []) ++ OR ∷ nested 8 (2 ∷ []))
    ∷ []

-- 'wreck and not removed or obstruction' first
pub read_as : map reading read
    ≡ some (either (both (term 7) (complement (term 8))) (term 9))
    ∷ some (either (either (term 1) (term 2)) (both (both (term 3) (term 4)) (term 5)))
    ∷ some (either (both (term 1) (term 2)) (both (term 3) (term 4)))
    ∷ some (either (term 1) (both (either (term 2) (term 3)) (term 4)))
    ∷ some (both (term 1) (both (term 2) (term 3)))
    ∷ some (both (complement (complement (either (term 1) (term 2)))) (term 3))
    ∷ some (either (complement (term 1)) (both (term 2) (complement (complement (term 3)))))
    ∷ some (both (term 1) (complement (either (term 2) (both (term 3) (complement (either (term 4) (term 5)))))))
    ∷ some (term 0)
    ∷ some (term 4095)
    ∷ some (term 1)
    ∷ some (either (term 1) (term 2))
    ∷ []
read_as = refl

-- no reading: empty, words and marks where none may stand, brackets that do not match, numbers that are neither word nor mark
abbrev unread : List (List ℕ)
unread =
    []
    ∷ (0 ∷ 0 ∷ [])
    ∷ (0 ∷ AND ∷ [])
    ∷ (AND ∷ 0 ∷ [])
    ∷ (0 ∷ OR ∷ [])
    ∷ (OR ∷ 0 ∷ [])
    ∷ (0 ∷ AND ∷ OR ∷ 0 ∷ [])
    ∷ (NOT ∷ [])
    ∷ (0 ∷ NOT ∷ [])
    ∷ (0 ∷ NOT ∷ 0 ∷ [])
    ∷ (NOT ∷ AND ∷ 0 ∷ [])
    ∷ (OPEN ∷ CLOSE ∷ [])
    ∷ (OPEN ∷ 0 ∷ [])
    ∷ (0 ∷ CLOSE ∷ [])
    ∷ (OPEN ∷ 0 ∷ CLOSE ∷ CLOSE ∷ [])
    ∷ (OPEN ∷ OPEN ∷ 0 ∷ CLOSE ∷ [])
    ∷ (CLOSE ∷ 0 ∷ OPEN ∷ [])
    ∷ (CLOSE ∷ 0 ∷ [])
    ∷ (0 ∷ AND ∷ CLOSE ∷ 0 ∷ [])
    ∷ (0 ∷ OPEN ∷ [])
    ∷ (0 ∷ OPEN ∷ 0 ∷ CLOSE ∷ [])
    ∷ (OPEN ∷ 0 ∷ CLOSE ∷ 0 ∷ [])
    ∷ (OPEN ∷ 0 ∷ AND ∷ CLOSE ∷ [])
    ∷ (4096 ∷ [])
    ∷ (59999 ∷ [])
    ∷ (60005 ∷ [])
    ∷ (65535 ∷ [])
    ∷ (4096 ∷ 0 ∷ [])
    ∷ (0 ∷ 4096 ∷ [])
    ∷ (NOT ∷ 4096 ∷ 0 ∷ [])
    ∷ (0 ∷ 59999 ∷ 0 ∷ [])
    ∷ (0 ∷ 60005 ∷ 0 ∷ [])
    ∷ (0 ∷ AND ∷ 4096 ∷ [])
    ∷ (59999 ∷ 0 ∷ CLOSE ∷ [])
    ∷ (60005 ∷ 0 ∷ CLOSE ∷ [])
    ∷ (OPEN ∷ 0 ∷ 59999 ∷ [])
    ∷ (OPEN ∷ 0 ∷ 60005 ∷ [])
    ∷ (1 ∷ OR ∷ OPEN ∷ 0 ∷ [])
    ∷ (1 ∷ AND ∷ OPEN ∷ 0 ∷ [])
    ∷ (OPEN ∷ OPEN ∷ 0 ∷ [])
    ∷ (OPEN ∷ CLOSE ∷ 0 ∷ [])
    ∷ (0 ∷ 0 ∷ AND ∷ 0 ∷ [])
    ∷ (0 ∷ 0 ∷ OR ∷ 0 ∷ [])
    ∷ []

pub unread_all : map reading unread ≡ replicate (length unread) none
unread_all = refl

-- the same after 'and', 'or' and 'not', inside a bracket, and in a second disjunct
abbrev unread_elsewhere : List (List ℕ)
unread_elsewhere =
    (0 ∷ AND ∷ AND ∷ 0 ∷ [])
    ∷ (0 ∷ OR ∷ AND ∷ 0 ∷ [])
    ∷ (0 ∷ OR ∷ OR ∷ 0 ∷ [])
    ∷ (NOT ∷ OR ∷ 0 ∷ [])
    ∷ (0 ∷ OR ∷ CLOSE ∷ 0 ∷ [])
    ∷ (NOT ∷ CLOSE ∷ 0 ∷ [])
    ∷ (0 ∷ AND ∷ 4096 ∷ 0 ∷ [])
    ∷ (0 ∷ OR ∷ 4096 ∷ 0 ∷ [])
    ∷ (OPEN ∷ AND ∷ 0 ∷ CLOSE ∷ [])
    ∷ (OPEN ∷ OR ∷ 0 ∷ CLOSE ∷ [])
    ∷ (OPEN ∷ CLOSE ∷ 0 ∷ CLOSE ∷ [])
    ∷ (OPEN ∷ 4096 ∷ 0 ∷ CLOSE ∷ [])
    ∷ (OPEN ∷ 0 ∷ 0 ∷ CLOSE ∷ [])
    ∷ (OPEN ∷ 0 ∷ NOT ∷ CLOSE ∷ [])
    ∷ (OPEN ∷ 0 ∷ NOT ∷ 0 ∷ CLOSE ∷ [])
    ∷ (OPEN ∷ 0 ∷ OPEN ∷ CLOSE ∷ [])
    ∷ (OPEN ∷ 0 ∷ OPEN ∷ 0 ∷ CLOSE ∷ CLOSE ∷ [])
    ∷ (OPEN ∷ 0 ∷ 4096 ∷ CLOSE ∷ [])
    ∷ (OPEN ∷ 0 ∷ 4096 ∷ 0 ∷ CLOSE ∷ [])
    ∷ (OPEN ∷ 0 ∷ OR ∷ 0 ∷ [])
    ∷ (OPEN ∷ 0 ∷ OR ∷ [])
    ∷ (OPEN ∷ 0 ∷ AND ∷ [])
    ∷ (0 ∷ OR ∷ NOT ∷ [])
    ∷ (0 ∷ AND ∷ NOT ∷ [])
    ∷ (0 ∷ OR ∷ 0 ∷ AND ∷ [])
    ∷ (0 ∷ OR ∷ 0 ∷ 0 ∷ [])
    ∷ (0 ∷ OR ∷ 0 ∷ NOT ∷ [])
    ∷ (0 ∷ OR ∷ 0 ∷ NOT ∷ 0 ∷ [])
    ∷ (0 ∷ OR ∷ 0 ∷ OPEN ∷ [])
    ∷ (0 ∷ OR ∷ 0 ∷ OPEN ∷ 0 ∷ CLOSE ∷ [])
    ∷ (0 ∷ OR ∷ 0 ∷ 4096 ∷ [])
    ∷ (0 ∷ OR ∷ 0 ∷ 4096 ∷ 0 ∷ [])
    ∷ (0 ∷ OR ∷ 0 ∷ CLOSE ∷ [])
    ∷ []

pub unread_elsewhere_lem : map reading unread_elsewhere ≡ replicate (length unread_elsewhere) none
unread_elsewhere_lem = refl

-- nine deep: alone, after 'and' and 'not', inside and after a closed bracket, and with one bracket less closed
abbrev deep : List (List ℕ)
deep =
    nested 9 (1 ∷ [])
    ∷ (0 ∷ AND ∷ nested 9 (1 ∷ []))
    ∷ (nested 8 (1 ∷ OR ∷ nested 1 (2 ∷ [])))
    ∷ nested 8 (1 ∷ AND ∷ nested 1 (2 ∷ []))
    ∷ nested 8 (NOT ∷ nested 1 (1 ∷ []))
    ∷ (nested 1 (0 ∷ []) ++ AND ∷ nested 9 (1 ∷ []))
    ∷ nested 1 (nested 1 (0 ∷ []) ++ AND ∷ nested 8 (1 ∷ []))
    ∷ (replicate 9 OPEN ++ 1 ∷ replicate 8 CLOSE)
    ∷ []

pub too_deep : map reading deep ≡ replicate (length deep) none
too_deep = refl

-- ---- the length

-- so many times 'not'
abbrev nots : ℕ → Expression → Expression
nots zero e = e
nots (suc n) e = complement (nots n e)

-- 64 numbers are read: 'not' may be repeated, and does not count as a bracket
pub long : reading (replicate 63 NOT ++ 0 ∷ []) ∷ reading (replicate 3 NOT ++ nested 8 (replicate 44 NOT ++ 0 ∷ [])) ∷ []
    ≡ some (nots 63 (term 0)) ∷ some (nots 47 (term 0)) ∷ []
long = refl

-- 65 are not, whatever they are
pub too_long : reading (replicate 64 NOT ++ 0 ∷ [])
    ∷ reading (0 ∷ AND ∷ replicate 60 NOT ++ OPEN ∷ 0 ∷ CLOSE ∷ [])
    ∷ reading (replicate 63 NOT ++ 0 ∷ 0 ∷ [])
    ∷ []
    ≡ none ∷ none ∷ none ∷ []
too_long = refl
