-- A case for each clause that an answer rests on, beside its sentence of document 01: what the definitions answer, and what the sentence
-- says. What breaks when a clause is bent, by itself. Leans on Figures for the files and questions, on Answers for the calls.
use Rattle.std.specs.Prelude.{ℕ, ◌+◌, ◌*◌, true, false, List, [], ◌∷◌, ◌++◌, ℤ, pos, negsuc, take, drop, set}
use Rattle.meaning.specs.Bytes.{num2}
use Rattle.meaning.specs.Register.{Outgoing, Incoming}
use Rattle.meaning.specs.RegisterFile.{register_head}
use Rattle.meaning.specs.WellFormed.{sizes, well_formed}
use Rattle.meaning.specs.Refusals.{number_of}
use Rattle.meaning.specs.declared.Refusal.TheVariants as refusal
use Rattle.meaning.specs.Answers.{Answer, refused, said, wrote, returned, code, left, condense, check, ask_register, ask_summary, list}
use Rattle.meaning.specs.Figures.{A, chain, three, empty, marked, a_link, drawn, crossed, by_target, doubled, knot, fifteen, uneven}
use Rattle.meaning.specs.Figures.{S1, none, a_class, a_row, proposed, classes_a, out_a, out_a2, in_a, in_a2, rows_a, links_a, map_a}
use Rattle.meaning.specs.Figures.{classed, rowed, linked, mapped, chained, three_as, fifteen_as, fifteen_in_two, knot_summary, crossed_summary}
use Rattle.meaning.specs.Figures.{ring, disagreeing, sized, crowd}
use Rattle.meaning.specs.Figures.{entry, literal, out, incoming, truth, negated, conjoined, disjoined, deep, nots}

-- the number P where document 01 gives one, else 0; what the definitions answer; what document 01 says
pub record Case : Type 0 where
  pub P : ℕ
  pub got : Answer
  pub want : Answer

-- a case of a sentence that has no number P
unfoldable pub so : Answer → Answer → Case
so a b = record { P = 0; got = a; want = b }

-- the bytes that an answer wrote
unfoldable pub bytes : Answer → List ℕ
bytes (refused k) = []
bytes (said t) = []
bytes (wrote p) = p

-- how many classes and groups a summary has; and, at level 1, the count that its class k states
unfoldable pub counts : ℕ → ℕ → List ℕ → Answer
counts i µ b = let s = bytes (condense i µ 1 b 9999) in wrote (num2 s 6 ∷ num2 s 8 ∷ [])

unfoldable pub tallied : ℕ → List ℕ → ℕ → Answer
tallied ν b k = let s = bytes (condense 1 1 ν b 9999) in wrote (num2 s (24 + 8 * k + 6) ∷ [])

-- whether a register is accepted, and whether a summary is well formed: "true" is asked at item 0
unfoldable pub judged : List ℕ → Answer
judged b = ask_register b truth 0

unfoldable pub read : List ℕ → Answer
read s = ask_summary s truth 0

-- the number that a caller in another language is handed, its sign first: 1 for minus
unfoldable pub sign_and_size : ℤ → Answer
sign_and_size (pos k) = wrote (0 ∷ k ∷ [])
sign_and_size (negsuc k) = wrote (1 ∷ (k + 1) ∷ [])

unfoldable pub handed : Answer → Answer
handed a = sign_and_size (code (returned a))

-- ---- the cases

-- "Register checks: under 12 bytes (1), then 2, then the rest of 1, then 3."
unfoldable pub registers : List Case
registers =
    so (judged A) (said true) ∷
    so (judged (take 11 A)) (refused 1) ∷
    so (judged (take 11 (set A 0 8))) (refused 1) ∷
    -- "2: n > 1,024 or m > 2,048": the header alone tells, and at the limits what is wrong is the length
    so (judged (register_head 1024 0)) (refused 1) ∷
    so (judged (register_head 1025 0)) (refused 2) ∷
    so (judged (register_head 0 2048)) (refused 1) ∷
    so (judged (register_head 0 2049)) (refused 2) ∷
    -- "wrong offsets, total, zero field or length": each by itself, an offset in its higher byte too
    so (judged (set A 5 13)) (refused 1) ∷
    so (judged (set A 4 1)) (refused 1) ∷
    so (judged (set A 7 37)) (refused 1) ∷
    so (judged (set A 9 55)) (refused 1) ∷
    so (judged (set A 11 1)) (refused 1) ∷
    so (judged (A ++ (0 ∷ []))) (refused 1) ∷
    so (judged (take 53 A)) (refused 1) ∷
    so (judged (set A 11 1 ++ (0 ∷ []))) (refused 1) ∷
    so (judged (set (set A 11 1) 53 6)) (refused 1) ∷
    -- "3: a link's item ≥ n, its label > 15, or order not strict"
    so (judged (set A 49 6)) (refused 3) ∷
    so (judged (set A 51 15)) (said true) ∷
    so (judged (set A 51 16)) (refused 3) ∷
    so (judged (set A 53 6)) (refused 3) ∷
    so (judged crossed) (said true) ∷
    so (judged by_target) (refused 3) ∷
    so (judged doubled) (refused 3) ∷
    so (judged (drawn [] (a_link 0 0 0 ∷ []))) (refused 3) ∷
    []

-- "An entry is read as one of six kinds with its parameters, or the question is refused."
unfoldable pub questions : List Case
questions =
    -- "1 to 64 entries of four bytes .. nothing may remain"
    so (ask_register A [] 0) (refused 5) ∷
    so (ask_register A (take 3 truth) 0) (refused 5) ∷
    so (ask_register A (truth ++ (0 ∷ [])) 0) (refused 5) ∷
    so (ask_register A (truth ++ (0 ∷ 0 ∷ [])) 0) (refused 5) ∷
    so (ask_register A (truth ++ (0 ∷ 0 ∷ 0 ∷ [])) 0) (refused 5) ∷
    so (ask_register A (truth ++ truth) 0) (refused 5) ∷
    so (ask_register A (nots 62) 0) (said true) ∷
    so (ask_register A (nots 63) 0) (said false) ∷
    so (ask_register A (nots 64) 0) (refused 5) ∷
    -- "each operator followed by its operands"
    so (ask_register A negated 0) (refused 5) ∷
    so (ask_register A conjoined 0) (refused 5) ∷
    so (ask_register A (conjoined ++ truth) 0) (refused 5) ∷
    so (ask_register A disjoined 0) (refused 5) ∷
    so (ask_register A (disjoined ++ truth) 0) (refused 5) ∷
    so (ask_register A (out 1) 0) (refused 5) ∷
    -- "Bytes three and four are 0. All else is malformed."
    so (ask_register A (0 ∷ 0 ∷ 1 ∷ 0 ∷ []) 0) (refused 5) ∷
    so (ask_register A (0 ∷ 0 ∷ 0 ∷ 1 ∷ []) 0) (refused 5) ∷
    so (ask_register A (entry 0 1) 0) (refused 5) ∷
    so (ask_register A (entry 2 1 ++ truth) 0) (refused 5) ∷
    so (ask_register A (entry 3 1 ++ truth ++ truth) 0) (refused 5) ∷
    so (ask_register A (entry 4 1 ++ truth ++ truth) 0) (refused 5) ∷
    so (ask_register A (entry 5 0) 0) (refused 5) ∷
    so (ask_register A (entry 15 1 ++ truth) 0) (refused 5) ∷
    so (ask_register A (entry 48 1 ++ truth) 0) (refused 5) ∷
    -- "t, 1 to 8", both ways; "16–31 .. 32–47"
    so (ask_register A (out 0 ++ truth) 0) (refused 5) ∷
    so (ask_register A (out 8 ++ truth) 0) (said false) ∷
    so (ask_register A (out 9 ++ truth) 0) (refused 5) ∷
    so (ask_register A (incoming 0 ++ truth) 0) (refused 5) ∷
    so (ask_register A (incoming 8 ++ truth) 0) (said false) ∷
    so (ask_register A (incoming 9 ++ truth) 0) (refused 5) ∷
    so (ask_register fifteen (entry 31 1 ++ truth) 0) (said true) ∷
    so (ask_register fifteen (entry 31 1 ++ truth) 1) (said false) ∷
    so (ask_register fifteen (entry 47 1 ++ truth) 0) (said false) ∷
    so (ask_register fifteen (entry 47 1 ++ truth) 1) (said true) ∷
    []

-- "On a register, neighbours are counted exactly and any depth is allowed."
unfoldable pub holding : List Case
holding =
    -- "k means mark k is on the item, −k that it is absent": marks in each of four bytes, and those beside them
    so (ask_register marked (literal 32) 0) (said true) ∷
    so (ask_register marked (literal 17) 0) (said true) ∷
    so (ask_register marked (literal 10) 0) (said true) ∷
    so (ask_register marked (literal 3) 0) (said true) ∷
    so (ask_register marked (literal 31) 0) (said false) ∷
    so (ask_register marked (literal 255) 0) (said true) ∷
    so (ask_register marked (literal 224) 0) (said false) ∷
    -- "not, one operand; and, or, two operands": on a register and on a summary, at a hoist
    so (ask_register A (negated ++ literal 1) 0) (said false) ∷
    so (ask_register A (negated ++ literal 3) 0) (said true) ∷
    so (ask_register A (conjoined ++ literal 1 ++ literal 3) 0) (said false) ∷
    so (ask_register A (conjoined ++ literal 3 ++ literal 1) 0) (said false) ∷
    so (ask_register A (conjoined ++ literal 1 ++ literal 252) 0) (said true) ∷
    so (ask_register A (disjoined ++ literal 1 ++ literal 3) 0) (said true) ∷
    so (ask_register A (disjoined ++ literal 3 ++ literal 1) 0) (said true) ∷
    so (ask_register A (disjoined ++ literal 3 ++ literal 4) 0) (said false) ∷
    so (ask_summary S1 (negated ++ literal 1) 0) (said false) ∷
    so (ask_summary S1 (negated ++ literal 3) 0) (said true) ∷
    so (ask_summary S1 (conjoined ++ literal 1 ++ literal 3) 0) (said false) ∷
    so (ask_summary S1 (conjoined ++ literal 3 ++ literal 1) 0) (said false) ∷
    so (ask_summary S1 (conjoined ++ literal 1 ++ literal 252) 0) (said true) ∷
    so (ask_summary S1 (disjoined ++ literal 1 ++ literal 3) 0) (said true) ∷
    so (ask_summary S1 (disjoined ++ literal 3 ++ literal 1) 0) (said true) ∷
    so (ask_summary S1 (disjoined ++ literal 3 ++ literal 4) 0) (said false) ∷
    -- "neighbours by label": another label's are none; a link from an item to itself is one each way
    so (ask_register A (entry 17 1 ++ truth) 0) (said false) ∷
    so (ask_summary S1 (entry 17 1 ++ truth) 0) (said false) ∷
    so (ask_register uneven (out 3 ++ truth) 0) (said false) ∷
    so (ask_register uneven (out 3 ++ truth) 1) (said true) ∷
    so (ask_register uneven (out 4 ++ truth) 1) (said false) ∷
    so (ask_register knot (out 2 ++ truth) 0) (said true) ∷
    so (ask_register knot (incoming 1 ++ literal 1) 0) (said true) ∷
    so (ask_register knot (incoming 2 ++ truth) 0) (said false) ∷
    -- "A question at an item of a summary is asked at its mapped class."
    so (ask_summary S1 (literal 3) 3) (said true) ∷
    so (ask_summary S1 (literal 3) 2) (said false) ∷
    -- "an operand holds at a group when it holds at the group's lowest-numbered class"
    so (ask_summary disagreeing (out 1 ++ literal 3) 0) (said true) ∷
    so (ask_summary disagreeing (out 1 ++ literal 4) 0) (said false) ∷
    []

-- "7: question deeper than i, or a threshold above µ + 1", wherever in the question
unfoldable pub reaching : List Case
reaching =
    so (read S1) (said true) ∷
    so (ask_summary S1 (negated ++ deep) 0) (refused 7) ∷
    so (ask_summary S1 (conjoined ++ deep ++ truth) 0) (refused 7) ∷
    so (ask_summary S1 (conjoined ++ truth ++ deep) 0) (refused 7) ∷
    so (ask_summary S1 (disjoined ++ deep ++ truth) 0) (refused 7) ∷
    so (ask_summary S1 (disjoined ++ truth ++ deep) 0) (refused 7) ∷
    so (ask_summary S1 (negated ++ out 3 ++ truth) 0) (refused 7) ∷
    so (ask_summary S1 (conjoined ++ out 3 ++ truth ++ truth) 0) (refused 7) ∷
    so (ask_summary S1 (conjoined ++ truth ++ out 3 ++ truth) 0) (refused 7) ∷
    so (ask_summary S1 (disjoined ++ out 3 ++ truth ++ truth) 0) (refused 7) ∷
    so (ask_summary S1 (disjoined ++ truth ++ out 3 ++ truth) 0) (refused 7) ∷
    -- at level 2
    so (ask_summary (set S1 1 2) deep 0) (said true) ∷
    so (ask_summary (set S1 1 2) (out 1 ++ deep) 0) (refused 7) ∷
    so (ask_summary (set S1 1 2) (out 1 ++ out 3 ++ truth) 0) (refused 7) ∷
    so (ask_summary (set S1 1 2) (out 3 ++ out 1 ++ truth) 0) (refused 7) ∷
    []

-- "A summary is well formed when ..": each condition broken by itself, and what stands at its edge accepted
unfoldable pub well_formedness : List Case
well_formedness =
    so (read (proposed 3 classes_a rows_a links_a map_a)) (said true) ∷
    -- "there are 24 bytes or more; offsets and length are exact"
    so (read (take 23 none)) (refused 6) ∷
    so (read none) (refused 8) ∷
    so (read (set S1 17 25)) (refused 6) ∷
    so (read (set S1 19 57)) (refused 6) ∷
    so (read (set S1 21 89)) (refused 6) ∷
    so (read (set S1 23 101)) (refused 6) ∷
    so (read (S1 ++ (0 ∷ []))) (refused 6) ∷
    so (read (take 111 S1)) (refused 6) ∷
    -- "i, µ, ν are in range"
    so (read (set S1 1 4)) (said true) ∷
    so (read (set S1 1 5)) (refused 6) ∷
    so (read (set S1 3 8)) (refused 6) ∷
    so (read (set S1 5 16)) (refused 6) ∷
    -- "c, n ≤ 1,024, r ≤ 4,096, e ≤ 2,048"
    so (said (sizes (sized 1024 1024 4096 2048))) (said true) ∷
    so (said (sizes (sized 1025 0 0 0))) (said false) ∷
    so (said (sizes (sized 0 1025 0 0))) (said false) ∷
    so (said (sizes (sized 0 0 4097 0))) (said false) ∷
    so (said (sizes (sized 0 0 0 2049))) (said false) ∷
    so (said (well_formed (crowd 1025))) (said false) ∷
    -- "class, group and label numbers and directions are in range", "class counts are 1 to ν + 1 and row counts 1 to µ + 1"
    so (read (classed (a_class 0 2 1))) (said true) ∷
    so (read (classed (a_class 0 3 1))) (refused 6) ∷
    so (read (classed (a_class 0 2 0))) (refused 6) ∷
    so (read (classed (a_class 0 2 2))) (said true) ∷
    so (read (classed (a_class 0 2 3))) (refused 6) ∷
    so (read (rowed (rows_a ++ (a_row 4 Outgoing 0 0 1 ∷ [])))) (refused 6) ∷
    so (read (rowed (rows_a ++ (a_row 3 Incoming 16 0 1 ∷ [])))) (refused 6) ∷
    so (read (rowed (rows_a ++ (a_row 3 Incoming 0 3 1 ∷ [])))) (refused 6) ∷
    so (read (set S1 83 32)) (refused 6) ∷
    so (read (set S1 87 0)) (refused 6) ∷
    so (read (set S1 87 2)) (said true) ∷
    so (read (set S1 87 3)) (refused 6) ∷
    so (read (linked (links_a ++ (a_link 4 0 2 ∷ [])))) (refused 6) ∷
    so (read (linked (links_a ++ (a_link 1 16 3 ∷ [])))) (refused 6) ∷
    so (read (ring (a_link 0 0 0 ∷ []))) (said true) ∷
    so (read (ring (a_link 0 0 0 ∷ a_link 0 0 1 ∷ []))) (refused 6) ∷
    so (read (mapped 3)) (said true) ∷
    so (read (mapped 4)) (refused 6) ∷
    so (read (proposed 0 [] [] [] (0 ∷ []))) (refused 6) ∷
    -- "rows and class links ascend as stated": by their fields in order, strictly
    so (read crossed_summary) (said true) ∷
    so (read knot_summary) (said true) ∷
    so (read (rowed (out_a2 ∷ out_a ∷ in_a ∷ in_a2 ∷ []))) (refused 6) ∷
    so (read (rowed (out_a ∷ out_a2 ∷ in_a ∷ in_a2 ∷ in_a2 ∷ []))) (refused 6) ∷
    so (read (linked (a_link 1 0 3 ∷ a_link 0 0 2 ∷ []))) (refused 6) ∷
    so (read (linked (links_a ++ (a_link 1 0 3 ∷ [])))) (refused 6) ∷
    -- "each group has a class"
    so (read (proposed 4 classes_a rows_a links_a map_a)) (refused 6) ∷
    -- "a row stands .. exactly when a class link joins that class to some class of the group that way": a row too few, out and in; a row too many
    so (read (rowed (out_a ∷ in_a ∷ in_a2 ∷ []))) (refused 6) ∷
    so (read (rowed (out_a ∷ out_a2 ∷ in_a ∷ []))) (refused 6) ∷
    so (read (rowed (out_a ∷ a_row 0 Outgoing 0 2 1 ∷ out_a2 ∷ in_a ∷ in_a2 ∷ []))) (refused 6) ∷
    so (read (rowed (rows_a ++ (a_row 3 Incoming 0 2 1 ∷ [])))) (refused 6) ∷
    so (read (linked (links_a ++ (a_link 3 15 3 ∷ [])))) (refused 6) ∷
    []

-- "The classes of a summary are those of level i": counts capped at µ and at ν, every label, the order of rows and of class links
unfoldable pub condensing : List Case
condensing =
    -- two hooks and three are both more than one, and with µ = 2 no longer the same
    so (counts 1 1 uneven) (wrote (3 ∷ 2 ∷ [])) ∷
    so (counts 1 2 uneven) (wrote (4 ∷ 2 ∷ [])) ∷
    -- "item count capped at ν": three hooks
    so (tallied 1 three 1) (wrote (2 ∷ [])) ∷
    so (tallied 2 three 1) (wrote (3 ∷ [])) ∷
    so (tallied 3 three 1) (wrote (3 ∷ [])) ∷
    -- the last label; an item with neighbours in two groups, both ways; two labels
    so (condense 1 1 1 fifteen 999) (wrote (fifteen_as 1)) ∷
    so (condense 1 1 1 knot 999) (wrote knot_summary) ∷
    so (condense 1 1 1 crossed 999) (wrote crossed_summary) ∷
    -- four bytes of marks, most significant first
    so (wrote (take 4 (drop 24 (bytes (condense 1 1 1 marked 999))))) (wrote (128 ∷ 1 ∷ 2 ∷ 4 ∷ [])) ∷
    []

-- "Yes exactly when ..": a no for each sentence of the check, on well-formed files; a yes for other levels and numbers
unfoldable pub checking : List Case
checking =
    so (check A (set S1 1 4)) (said true) ∷
    so (check chain (chained (a_link 0 0 1 ∷ a_link 1 0 1 ∷ a_link 1 0 2 ∷ []))) (said true) ∷
    so (check fifteen (fifteen_as 1)) (said true) ∷
    so (check knot knot_summary) (said true) ∷
    so (check three (three_as 2)) (said true) ∷
    so (check three (set (set (three_as 3) 3 2) 5 2)) (said true) ∷
    -- "the item counts agree"
    so (check A (mapped 3)) (said false) ∷
    -- "each item's marks equal its class's": the last item's
    so (check (set A 35 8) S1) (said false) ∷
    -- "each class's stated count equals its number of items capped at ν": more than one for one, one for more
    so (check A (set S1 55 2)) (said false) ∷
    so (check A (set S1 31 1)) (said false) ∷
    -- "the class links are exactly the images of the links": one too few, one too many
    so (check chain (chained (a_link 0 0 1 ∷ a_link 1 0 2 ∷ []))) (said false) ∷
    so (check chain (chained (a_link 0 0 1 ∷ a_link 0 0 2 ∷ a_link 1 0 1 ∷ a_link 1 0 2 ∷ []))) (said false) ∷
    -- "for every item, direction, label and group .. equals the row": an outgoing row's count, an incoming one's, the last label's
    so (check A (set S1 71 2)) (said false) ∷
    so (check A (set S1 87 2)) (said false) ∷
    so (check fifteen (fifteen_as 2)) (said false) ∷
    -- "zero where there is none": an item without the neighbour that its class's row states
    so (check fifteen fifteen_in_two) (said false) ∷
    []

-- "Orders": each test of each call, on inputs that fail it and every test behind it; then what is accepted at its edge
unfoldable pub orders : List Case
orders =
    -- "condense 1, 2, 3 as above, 4, 9"
    so (condense 0 1 1 (take 11 A) 0) (refused 1) ∷
    so (condense 0 1 1 (register_head 1025 0) 0) (refused 2) ∷
    so (condense 0 1 1 (set (set A 11 1) 53 6) 0) (refused 1) ∷
    so (condense 0 1 1 (set A 53 6) 0) (refused 3) ∷
    so (condense 0 1 1 A 0) (refused 4) ∷
    so (condense 1 1 1 A 0) (refused 9) ∷
    -- "check 1, 2, 3, 6"
    so (check (take 11 A) []) (refused 1) ∷
    so (check (register_head 1025 0) []) (refused 2) ∷
    so (check (set (set A 11 1) 53 6) []) (refused 1) ∷
    so (check (set A 53 6) []) (refused 3) ∷
    so (check A []) (refused 6) ∷
    -- "ask a register 1, 2, 3, 5, 8"
    so (ask_register (take 11 A) [] 6) (refused 1) ∷
    so (ask_register (register_head 1025 0) [] 6) (refused 2) ∷
    so (ask_register (set (set A 11 1) 53 6) [] 6) (refused 1) ∷
    so (ask_register (set A 53 6) [] 6) (refused 3) ∷
    so (ask_register A [] 6) (refused 5) ∷
    so (ask_register A truth 6) (refused 8) ∷
    so (ask_register A truth 5) (said true) ∷
    -- "ask a summary 6, 5, 7, 8"
    so (ask_summary (set S1 87 0) [] 6) (refused 6) ∷
    so (ask_summary (set S1 87 0) deep 6) (refused 6) ∷
    so (ask_summary S1 [] 6) (refused 5) ∷
    so (ask_summary S1 deep 6) (refused 7) ∷
    so (ask_summary S1 truth 6) (refused 8) ∷
    so (ask_summary S1 truth 5) (said true) ∷
    -- "list from a summary 6, 5, 7, 9"
    so (list (set S1 87 0) [] 0) (refused 6) ∷
    so (list (set S1 87 0) deep 0) (refused 6) ∷
    so (list S1 [] 0) (refused 5) ∷
    so (list S1 (conjoined ++ truth ++ deep) 0) (refused 7) ∷
    so (list S1 (literal 3) 3) (refused 9) ∷
    so (list S1 (literal 3) 4) (wrote (0 ∷ 3 ∷ 0 ∷ 4 ∷ [])) ∷
    -- "Level i is 1 to 4, neighbour cap µ is 1 to 7, class cap ν is 1 to 15": 4 past each end, and 257 is not 1
    so (condense 4 7 15 empty 24) (wrote (set (set (set none 1 4) 3 7) 5 15)) ∷
    so (condense 5 1 1 empty 24) (refused 4) ∷
    so (condense 1 0 1 empty 24) (refused 4) ∷
    so (condense 1 8 1 empty 24) (refused 4) ∷
    so (condense 1 1 0 empty 24) (refused 4) ∷
    so (condense 1 1 16 empty 24) (refused 4) ∷
    so (condense 257 1 1 empty 24) (refused 4) ∷
    []

-- "A refusal returns its number only, and no lent byte changes. A success returns the length written, or yes or no; bytes past that length stay."
unfoldable pub lent : List Case
lent =
    so (wrote (left (list S1 (literal 3) 3) (7 ∷ 8 ∷ 9 ∷ []))) (wrote (7 ∷ 8 ∷ 9 ∷ [])) ∷
    so (wrote (left (list S1 (out 1 ++ literal 4) 3) (7 ∷ 8 ∷ 9 ∷ []))) (wrote (0 ∷ 2 ∷ 9 ∷ [])) ∷
    so (wrote (left (check A S1) (7 ∷ 8 ∷ 9 ∷ []))) (wrote (7 ∷ 8 ∷ 9 ∷ [])) ∷
    so (handed (list S1 (literal 3) 3)) (wrote (1 ∷ 9 ∷ [])) ∷
    so (handed (check A [])) (wrote (1 ∷ 6 ∷ [])) ∷
    so (handed (list S1 (literal 3) 4)) (wrote (0 ∷ 4 ∷ [])) ∷
    so (handed (check A S1)) (wrote (0 ∷ 1 ∷ [])) ∷
    so (handed (check A (set S1 55 2))) (wrote (0 ∷ 0 ∷ [])) ∷
    -- "Numbers given when the tablet says no"
    so (wrote (number_of refusal.Header ∷ number_of refusal.Size ∷ number_of refusal.Link ∷ number_of refusal.Range ∷ number_of refusal.Question ∷
    number_of refusal.Summary ∷ number_of refusal.Beyond ∷ number_of refusal.Item ∷ number_of refusal.Room ∷ []))
    (wrote (1 ∷ 2 ∷ 3 ∷ 4 ∷ 5 ∷ 6 ∷ 7 ∷ 8 ∷ 9 ∷ [])) ∷
    []
