-- Reading a line, with the first refusal from left to right.
use Rattle.std.specs.Prelude.{ℕ, ◌+◌, ◌*◌, ◌-◌, Bool, true, false, cond, ◌&&◌, ◌||◌, List, [], ◌∷◌, eqb, ltb, length, get_or, drop}
use Rattle.ptacl.specs.Request.{Pair}
use Rattle.ptacl.specs.Term.{Sort, policy, Policy, Node, shape}
use Rattle.files.specs.Refusal.{Read, accepted, refused}
use Rattle.files.specs.Prefix.{Head, node, stop, Scan, done, fault, Reader, scan}
use Rattle.files.specs.ReadPolicy.{Byte, tag, unknown, nodes_of, find, limit_of, tagged, finish}
use Rattle.text.specs.Words.{word}
use Rattle.text.specs.Line.{decimal, End, space, line_feed, byte_of, behind, words}

-- a word is the run of bytes up to a space, line feed or end
abbrev pub ends : ℕ → Bool
ends x = eqb x 32 || eqb x 10

abbrev pub run : List ℕ → List ℕ
run [] = []
run (x ∷ xs) = cond (ends x) [] (x ∷ run xs)

abbrev pub run_at : List ℕ → ℕ → List ℕ
run_at b at = run (drop at b)

-- the words are compared byte by byte
abbrev pub same : List ℕ → List ℕ → Bool
same [] [] = true
same [] (y ∷ ys) = false
same (x ∷ xs) [] = false
same (x ∷ xs) (y ∷ ys) = eqb x y && same xs ys

unfoldable pub word_at : (s : Sort) → List ℕ → Byte s
word_at s w = find (λ n. same w (word n)) tag (nodes_of s) unknown

-- where a space or the line feed is due: 53 at the end; 51 another byte for a space, 54 for the line feed; else the place behind it
abbrev pub another : End → ℕ
another space = 51
another line_feed = 54

unfoldable pub past : List ℕ → End → ℕ → Read ℕ
past b e at =
    cond (ltb at (length b)) (cond (eqb (get_or b at 0) (byte_of e)) (accepted (at + 1)) (refused (another e) at)) (refused 53 (length b))

abbrev pub opened : {s : Sort} → Node s → Read ℕ → Head s
opened n (accepted next) = node n next
opened n (refused number place) = stop number place

-- where a word is due: 53, 51, also for a word of the other sort, 6, 7, then what is due behind it
unfoldable pub head_at : ℕ → List ℕ → (s : Sort) → ℕ → End → ℕ → ℕ → Head s
head_at most b s left e at nodes =
    cond (ltb at (length b))
    (tagged 51 51 (limit_of most left nodes) at (λ n. opened n (past b (behind (shape n) e) (at + length (run_at b at)))) (word_at s (run_at b at)))
    (stop 53 (length b))

-- a run is a number up to 65,535 if the number that its digits stand for is written so
abbrev pub value : ℕ → List ℕ → ℕ
value v [] = v
value v (x ∷ xs) = value (v * 10 + (x - 48)) xs

unfoldable pub is_number : List ℕ → Bool
is_number w = ltb (value 0 w) 65536 && same w (decimal (value 0 w))

abbrev pub numbered : ℕ → Read ℕ → Read (ℕ × ℕ)
numbered v (accepted next) = accepted (v, next)
numbered v (refused number place) = refused number place

-- where a number is due: 52, then what is due behind it; the number and the place behind
unfoldable pub number_at : List ℕ → End → ℕ → Read (ℕ × ℕ)
number_at b e at = cond (is_number (run_at b at)) (numbered (value 0 (run_at b at)) (past b e (at + length (run_at b at)))) (refused 52 at)

abbrev pub then_number : Read (ℕ × ℕ) → (ℕ → ℕ → Scan Pair) → Scan Pair
then_number (accepted x) f = f x.0 x.1
then_number (refused number place) f = fault number place

unfoldable pub pair_at : List ℕ → End → ℕ → ℕ → Scan Pair
pair_at b e at nodes = then_number (number_at b space at) (λ n a. then_number (number_at b e a) (λ v c. done (n, v) c nodes))

-- so words are read, up to so many nodes
abbrev pub in_words : ℕ → List ℕ → Reader End
in_words most b = record { form = words; head = head_at most b; pair = pair_at b }

-- a byte that follows the line feed is 54
unfoldable pub read_text : List ℕ → Read Policy
read_text s = finish 54 (length s) (scan (in_words 255 s) 32 policy line_feed 0 0)
