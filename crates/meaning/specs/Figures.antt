-- The files and questions that the table of examples speaks of: document 01's own, byte for byte, and small ones beside them, one for
-- each sentence that document 01's do not reach. Leans on RegisterFile and SummaryFile for the bytes of a picture.
use Rattle.std.specs.Prelude.{ℕ, zero, suc, List, [], ◌∷◌, ◌++◌, replicate}
use Rattle.meaning.specs.Register.{Link, Direction, Outgoing, Incoming}
use Rattle.meaning.specs.RegisterFile.{register_bytes}
use Rattle.meaning.specs.Summary.{Class, Row, Summary}
use Rattle.meaning.specs.SummaryFile.{summary_bytes}

-- ---- registers

-- "Register A: items 0, 1, 2 are hoists (marks 1), 3 and 4 passed hooks (6), 5 a failed hook (10); .. Links by label 0: 0 to 3, 1 to 4, 2 to 5."
unfoldable pub A : List ℕ
A =
    0 ∷ 6 ∷ 0 ∷ 3 ∷ 0 ∷ 12 ∷ 0 ∷ 36 ∷ 0 ∷ 54 ∷ 0 ∷ 0 ∷
    0 ∷ 0 ∷ 0 ∷ 1 ∷ 0 ∷ 0 ∷ 0 ∷ 1 ∷ 0 ∷ 0 ∷ 0 ∷ 1 ∷ 0 ∷ 0 ∷ 0 ∷ 6 ∷ 0 ∷ 0 ∷ 0 ∷ 6 ∷ 0 ∷ 0 ∷ 0 ∷ 10 ∷
    0 ∷ 0 ∷ 0 ∷ 0 ∷ 0 ∷ 3 ∷
    0 ∷ 1 ∷ 0 ∷ 0 ∷ 0 ∷ 4 ∷
    0 ∷ 2 ∷ 0 ∷ 0 ∷ 0 ∷ 5 ∷ []

-- "a chain of four unmarked items, links 0 to 1 to 2 to 3, label 0"
unfoldable pub chain : List ℕ
chain =
    0 ∷ 4 ∷ 0 ∷ 3 ∷ 0 ∷ 12 ∷ 0 ∷ 28 ∷ 0 ∷ 46 ∷ 0 ∷ 0 ∷
    0 ∷ 0 ∷ 0 ∷ 0 ∷ 0 ∷ 0 ∷ 0 ∷ 0 ∷ 0 ∷ 0 ∷ 0 ∷ 0 ∷ 0 ∷ 0 ∷ 0 ∷ 0 ∷
    0 ∷ 0 ∷ 0 ∷ 0 ∷ 0 ∷ 1 ∷
    0 ∷ 1 ∷ 0 ∷ 0 ∷ 0 ∷ 2 ∷
    0 ∷ 2 ∷ 0 ∷ 0 ∷ 0 ∷ 3 ∷ []

-- "a hoist with three passed hooks, links out by 0"
unfoldable pub three : List ℕ
three =
    0 ∷ 4 ∷ 0 ∷ 3 ∷ 0 ∷ 12 ∷ 0 ∷ 28 ∷ 0 ∷ 46 ∷ 0 ∷ 0 ∷
    0 ∷ 0 ∷ 0 ∷ 1 ∷ 0 ∷ 0 ∷ 0 ∷ 6 ∷ 0 ∷ 0 ∷ 0 ∷ 6 ∷ 0 ∷ 0 ∷ 0 ∷ 6 ∷
    0 ∷ 0 ∷ 0 ∷ 0 ∷ 0 ∷ 1 ∷
    0 ∷ 0 ∷ 0 ∷ 0 ∷ 0 ∷ 2 ∷
    0 ∷ 0 ∷ 0 ∷ 0 ∷ 0 ∷ 3 ∷ []

-- "a hoist with one passed and one failed hook, links out by 0"
unfoldable pub pair : List ℕ
pair =
    0 ∷ 3 ∷ 0 ∷ 2 ∷ 0 ∷ 12 ∷ 0 ∷ 24 ∷ 0 ∷ 36 ∷ 0 ∷ 0 ∷
    0 ∷ 0 ∷ 0 ∷ 1 ∷ 0 ∷ 0 ∷ 0 ∷ 6 ∷ 0 ∷ 0 ∷ 0 ∷ 10 ∷
    0 ∷ 0 ∷ 0 ∷ 0 ∷ 0 ∷ 1 ∷
    0 ∷ 0 ∷ 0 ∷ 0 ∷ 0 ∷ 2 ∷ []

-- "the empty register"
unfoldable pub empty : List ℕ
empty = 0 ∷ 0 ∷ 0 ∷ 0 ∷ 0 ∷ 12 ∷ 0 ∷ 12 ∷ 0 ∷ 12 ∷ 0 ∷ 0 ∷ []

-- one item with marks 32, 17, 10 and 3, a bit in each of the four bytes
unfoldable pub marked : List ℕ
marked = 0 ∷ 1 ∷ 0 ∷ 0 ∷ 0 ∷ 12 ∷ 0 ∷ 16 ∷ 0 ∷ 16 ∷ 0 ∷ 0 ∷ 128 ∷ 1 ∷ 2 ∷ 4 ∷ []

unfoldable pub a_link : ℕ → ℕ → ℕ → Link
a_link s l t = record { source = s; label = l; target = t }

unfoldable pub drawn : List ℕ → List Link → List ℕ
drawn ms ls = register_bytes (record { marks = ms; links = ls })

-- two items, links whose labels and targets fall where the fields before them rise: 0 to 1 by 0, 0 to itself by 1, 1 to 0 by 0
unfoldable pub crossed : List ℕ
crossed = drawn (0 ∷ 0 ∷ []) (a_link 0 0 1 ∷ a_link 0 1 0 ∷ a_link 1 0 0 ∷ [])

-- and the same links in two wrong orders
unfoldable pub by_target : List ℕ
by_target = drawn (0 ∷ 0 ∷ []) (a_link 0 1 0 ∷ a_link 1 0 0 ∷ a_link 0 0 1 ∷ [])

unfoldable pub doubled : List ℕ
doubled = drawn (0 ∷ 0 ∷ []) (a_link 0 0 1 ∷ a_link 0 0 1 ∷ [])

-- a hoist that is linked to itself and to a hook
unfoldable pub knot : List ℕ
knot = drawn (1 ∷ 2 ∷ []) (a_link 0 0 0 ∷ a_link 0 0 1 ∷ [])

-- three unmarked items, 0 linked to 1 by the last label
unfoldable pub fifteen : List ℕ
fifteen = drawn (0 ∷ 0 ∷ 0 ∷ []) (a_link 0 15 1 ∷ [])

-- two hoists over three hooks: the first carries two of them, the second all three
unfoldable pub uneven : List ℕ
uneven = drawn (1 ∷ 1 ∷ 6 ∷ 6 ∷ 6 ∷ []) (a_link 0 0 2 ∷ a_link 0 0 3 ∷ a_link 1 0 2 ∷ a_link 1 0 3 ∷ a_link 1 0 4 ∷ [])

-- ---- summaries

-- the summary of A for 1, 1, 1, as document 01 lists it: header, classes, rows, class links (edges), map
unfoldable pub S1 : List ℕ
S1 =
    0 ∷ 1 ∷ 0 ∷ 1 ∷ 0 ∷ 1 ∷ 0 ∷ 4 ∷ 0 ∷ 3 ∷ 0 ∷ 4 ∷ 0 ∷ 2 ∷ 0 ∷ 6 ∷ 0 ∷ 24 ∷ 0 ∷ 56 ∷ 0 ∷ 88 ∷ 0 ∷ 100 ∷
    0 ∷ 0 ∷ 0 ∷ 1 ∷ 0 ∷ 0 ∷ 0 ∷ 2 ∷
    0 ∷ 0 ∷ 0 ∷ 1 ∷ 0 ∷ 0 ∷ 0 ∷ 1 ∷
    0 ∷ 0 ∷ 0 ∷ 6 ∷ 0 ∷ 1 ∷ 0 ∷ 2 ∷
    0 ∷ 0 ∷ 0 ∷ 10 ∷ 0 ∷ 2 ∷ 0 ∷ 1 ∷
    0 ∷ 0 ∷ 0 ∷ 0 ∷ 0 ∷ 1 ∷ 0 ∷ 1 ∷
    0 ∷ 1 ∷ 0 ∷ 0 ∷ 0 ∷ 2 ∷ 0 ∷ 1 ∷
    0 ∷ 2 ∷ 0 ∷ 16 ∷ 0 ∷ 0 ∷ 0 ∷ 1 ∷
    0 ∷ 3 ∷ 0 ∷ 16 ∷ 0 ∷ 0 ∷ 0 ∷ 1 ∷
    0 ∷ 0 ∷ 0 ∷ 0 ∷ 0 ∷ 2 ∷
    0 ∷ 1 ∷ 0 ∷ 0 ∷ 0 ∷ 3 ∷
    0 ∷ 0 ∷ 0 ∷ 0 ∷ 0 ∷ 1 ∷ 0 ∷ 2 ∷ 0 ∷ 2 ∷ 0 ∷ 3 ∷ []

-- "the empty register gives 24 bytes, all offsets 24"
unfoldable pub none : List ℕ
none = 0 ∷ 1 ∷ 0 ∷ 1 ∷ 0 ∷ 1 ∷ 0 ∷ 0 ∷ 0 ∷ 0 ∷ 0 ∷ 0 ∷ 0 ∷ 0 ∷ 0 ∷ 0 ∷ 0 ∷ 24 ∷ 0 ∷ 24 ∷ 0 ∷ 24 ∷ 0 ∷ 24 ∷ []

unfoldable pub a_class : ℕ → ℕ → ℕ → Class
a_class m g n = record { marks = m; group = g; count = n }

unfoldable pub a_row : ℕ → Direction → ℕ → ℕ → ℕ → Row
a_row k d l g n = record { class = k; direction = d; label = l; group = g; count = n }

-- a summary at 1, 1, 1 with g groups, and its file
unfoldable pub picture : ℕ → List Class → List Row → List Link → List ℕ → Summary
picture g cs rs ls ks = record { level = 1; near_cap = 1; class_cap = 1; groups = g; classes = cs; rows = rs; links = ls; map = ks }

unfoldable pub proposed : ℕ → List Class → List Row → List Link → List ℕ → List ℕ
proposed g cs rs ls ks = summary_bytes (picture g cs rs ls ks)

-- the parts of S1
unfoldable pub classes_a : List Class
classes_a = a_class 1 0 2 ∷ a_class 1 0 1 ∷ a_class 6 1 2 ∷ a_class 10 2 1 ∷ []

unfoldable pub out_a : Row
out_a = a_row 0 Outgoing 0 1 1

unfoldable pub out_a2 : Row
out_a2 = a_row 1 Outgoing 0 2 1

unfoldable pub in_a : Row
in_a = a_row 2 Incoming 0 0 1

unfoldable pub in_a2 : Row
in_a2 = a_row 3 Incoming 0 0 1

unfoldable pub rows_a : List Row
rows_a = out_a ∷ out_a2 ∷ in_a ∷ in_a2 ∷ []

unfoldable pub links_a : List Link
links_a = a_link 0 0 2 ∷ a_link 1 0 3 ∷ []

unfoldable pub map_a : List ℕ
map_a = 0 ∷ 0 ∷ 1 ∷ 2 ∷ 2 ∷ 3 ∷ []

-- S1 with one class more, with these rows, with these class links, with one item more
unfoldable pub classed : Class → List ℕ
classed k = proposed 3 (classes_a ++ (k ∷ [])) rows_a links_a map_a

unfoldable pub rowed : List Row → List ℕ
rowed rs = proposed 3 classes_a rs links_a map_a

unfoldable pub linked : List Link → List ℕ
linked ls = proposed 3 classes_a rows_a ls map_a

unfoldable pub mapped : ℕ → List ℕ
mapped k = proposed 3 classes_a rows_a links_a (map_a ++ (k ∷ []))

-- the chain's summary at level 1, with these class links: the first item, those between, the last one; all in one group
unfoldable pub chained : List Link → List ℕ
chained ls =
    proposed 1 (a_class 0 0 1 ∷ a_class 0 0 2 ∷ a_class 0 0 1 ∷ [])
    (a_row 0 Outgoing 0 0 1 ∷ a_row 1 Outgoing 0 0 1 ∷ a_row 1 Incoming 0 0 1 ∷ a_row 2 Incoming 0 0 1 ∷ []) ls (0 ∷ 1 ∷ 1 ∷ 2 ∷ [])

-- the summary of `three`, where hooks are told as t, by their class and by the hoist's row
unfoldable pub three_as : ℕ → List ℕ
three_as t =
    proposed 2 (a_class 1 0 1 ∷ a_class 6 1 t ∷ []) (a_row 0 Outgoing 0 1 t ∷ a_row 1 Incoming 0 0 1 ∷ []) (a_link 0 0 1 ∷ []) (0 ∷ 1 ∷ 1 ∷ 1 ∷ [])

-- the summary of `fifteen`, where its outgoing row says t; and one that puts items 0 and 2 into one class
unfoldable pub fifteen_as : ℕ → List ℕ
fifteen_as t =
    proposed 1 (a_class 0 0 1 ∷ a_class 0 0 1 ∷ a_class 0 0 1 ∷ []) (a_row 0 Outgoing 15 0 t ∷ a_row 1 Incoming 15 0 1 ∷ []) (a_link 0 15 1 ∷ [])
    (0 ∷ 1 ∷ 2 ∷ [])

unfoldable pub fifteen_in_two : List ℕ
fifteen_in_two =
    proposed 1 (a_class 0 0 2 ∷ a_class 0 0 1 ∷ []) (a_row 0 Outgoing 15 0 1 ∷ a_row 1 Incoming 15 0 1 ∷ []) (a_link 0 15 1 ∷ []) (0 ∷ 1 ∷ 0 ∷ [])

-- the summaries of `knot` and of `crossed`
unfoldable pub knot_summary : List ℕ
knot_summary =
    proposed 2 (a_class 1 0 1 ∷ a_class 2 1 1 ∷ [])
    (a_row 0 Outgoing 0 0 1 ∷ a_row 0 Outgoing 0 1 1 ∷ a_row 0 Incoming 0 0 1 ∷ a_row 1 Incoming 0 0 1 ∷ []) (a_link 0 0 0 ∷ a_link 0 0 1 ∷ [])
    (0 ∷ 1 ∷ [])

unfoldable pub crossed_summary : List ℕ
crossed_summary =
    proposed 1 (a_class 0 0 1 ∷ a_class 0 0 1 ∷ [])
    (a_row 0 Outgoing 0 0 1 ∷ a_row 0 Outgoing 1 0 1 ∷ a_row 0 Incoming 0 0 1 ∷ a_row 0 Incoming 1 0 1 ∷
    a_row 1 Outgoing 0 0 1 ∷ a_row 1 Incoming 0 0 1 ∷ []) (a_link 0 0 1 ∷ a_link 0 1 0 ∷ a_link 1 0 0 ∷ []) (0 ∷ 1 ∷ [])

-- one class, linked to itself
unfoldable pub ring : List Link → List ℕ
ring ls = proposed 1 (a_class 0 0 1 ∷ []) (a_row 0 Outgoing 0 0 1 ∷ a_row 0 Incoming 0 0 1 ∷ []) ls (0 ∷ [])

-- a passed and a failed hook in one group: a hoist's row names that group, and the class link leads to the failed one
unfoldable pub disagreeing : List ℕ
disagreeing =
    proposed 2 (a_class 1 0 1 ∷ a_class 6 1 1 ∷ a_class 10 1 1 ∷ []) (a_row 0 Outgoing 0 1 1 ∷ a_row 2 Incoming 0 0 1 ∷ []) (a_link 0 0 2 ∷ [])
    (0 ∷ 1 ∷ 2 ∷ [])

-- a picture of so many classes, items, rows and class links, each as good as the next; and one class of n items
unfoldable pub sized : ℕ → ℕ → ℕ → ℕ → Summary
sized c n r e = picture 1 (replicate c (a_class 0 0 1)) (replicate r (a_row 0 Outgoing 0 0 1)) (replicate e (a_link 0 0 0)) (replicate n 0)

unfoldable pub crowd : ℕ → Summary
crowd n = picture 1 (a_class 0 0 2 ∷ []) [] [] (replicate n 0)

-- ---- questions, entry by entry

unfoldable pub entry : ℕ → ℕ → List ℕ
entry a v = a ∷ v ∷ 0 ∷ 0 ∷ []

-- the literal whose second byte is v (252 is −4, 224 is −32, 223 is −33); "at least t out by 0" and "at least t in by 0"; true
unfoldable pub literal : ℕ → List ℕ
literal v = entry 1 v

unfoldable pub out : ℕ → List ℕ
out t = entry 16 t

unfoldable pub incoming : ℕ → List ℕ
incoming t = entry 32 t

unfoldable pub truth : List ℕ
truth = entry 0 0

-- "not, one operand; and, or, two operands"
unfoldable pub negated : List ℕ
negated = entry 2 0

unfoldable pub conjoined : List ℕ
conjoined = entry 3 0

unfoldable pub disjoined : List ℕ
disjoined = entry 4 0

-- one at-least inside another; and the question of k "not" before "true"
unfoldable pub deep : List ℕ
deep = out 1 ++ incoming 1 ++ truth

unfoldable pub nots : ℕ → List ℕ
nots zero = truth
nots (suc k) = negated ++ nots k
