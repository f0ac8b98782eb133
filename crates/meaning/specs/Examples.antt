-- One table of cases, one test that the checker computes, one statement (proofs/Examples): P1 to P11 of document 01, each findable by its
-- number, and behind them a case for each other clause (Cases). Each goes through the definition that a public call's contract cites, so
-- that bending a definition is refused there. Leans on Figures for the files and questions, on Answers for the calls.
use Rattle.std.specs.Prelude.{ℕ, ◌+◌, ◌*◌, Bool, true, false, cond, ◌&&◌, List, [], ◌∷◌, ◌++◌, eqb, length}
use Rattle.meaning.specs.Bytes.{num2}
use Rattle.meaning.specs.Answers.{Answer, refused, said, wrote, condense, check, ask_register, ask_summary, list}
use Rattle.meaning.specs.Figures.{A, chain, three, pair, empty, S1, none, literal, out, incoming, truth}
use Rattle.meaning.specs.Cases.{Case, bytes, counts, registers, questions, holding, reaching, well_formedness, condensing, checking, orders, lent}

-- ---- answers

unfoldable pub same : List ℕ → List ℕ → Bool
same [] [] = true
same [] (y ∷ ys) = false
same (x ∷ xs) [] = false
same (x ∷ xs) (y ∷ ys) = eqb x y && same xs ys

unfoldable pub equal : Answer → Answer → Bool
equal (refused j) (refused k) = eqb j k
equal (refused j) (said t) = false
equal (refused j) (wrote q) = false
equal (said true) (said t) = t
equal (said false) (said t) = cond t false true
equal (said t) (refused k) = false
equal (said t) (wrote q) = false
equal (wrote p) (refused k) = false
equal (wrote p) (said t) = false
equal (wrote p) (wrote q) = same p q

-- a question at item 0 of a summary at level 1; and row j of that summary
unfoldable pub asked : ℕ → List ℕ → List ℕ → Answer
asked µ b q = let s = bytes (condense 1 µ 1 b 9999) in ask_summary s q 0

unfoldable pub row : ℕ → List ℕ → ℕ → Answer
row µ b j =
    let s = bytes (condense 1 µ 1 b 9999) in
    let at = num2 s 18 + 8 * j in
    wrote (num2 s at ∷ num2 s (at + 2) ∷ num2 s (at + 4) ∷ num2 s (at + 6) ∷ [])

-- ---- the table

unfoldable pub numbered : List Case
numbered =
    -- P1: "that summary; the file has 112 bytes": there is room in 112 bytes and not in 111; and it is an abstraction of A
    record { P = 1; got = condense 1 1 1 A 112; want = wrote S1 } ∷
    record { P = 1; got = wrote (length S1 ∷ []); want = wrote (112 ∷ []) } ∷
    record { P = 1; got = condense 1 1 1 A 111; want = refused 9 } ∷
    record { P = 1; got = check A S1; want = said true } ∷
    -- P2: "'at least 1 out by 0 is failed' (16 1 0 0, 1 4 0 0) lists 2 only"; and so says A itself
    record { P = 2; got = list S1 (out 1 ++ literal 4) 100; want = wrote (0 ∷ 2 ∷ []) } ∷
    record { P = 2; got = ask_register A (out 1 ++ literal 4) 1; want = said false } ∷
    record { P = 2; got = ask_register A (out 1 ++ literal 4) 2; want = said true } ∷
    -- P3: "literal −4 lists 0 to 4, literal 3 lists 3 and 4: lacking 'failed' is not having 'passed'"
    record { P = 3; got = list S1 (literal 252) 100; want = wrote (0 ∷ 0 ∷ 0 ∷ 1 ∷ 0 ∷ 2 ∷ 0 ∷ 3 ∷ 0 ∷ 4 ∷ []) } ∷
    record { P = 3; got = list S1 (literal 3) 100; want = wrote (0 ∷ 3 ∷ 0 ∷ 4 ∷ []) } ∷
    record { P = 3; got = ask_register A (literal 252) 0; want = said true } ∷
    record { P = 3; got = ask_register A (literal 252) 5; want = said false } ∷
    record { P = 3; got = ask_register A (literal 3) 0; want = said false } ∷
    record { P = 3; got = ask_register A (literal 3) 4; want = said true } ∷
    -- P4: "'at least 1 in by 0 is a hoist' lists 3, 4, 5"
    record { P = 4; got = list S1 (incoming 1 ++ literal 1) 100; want = wrote (0 ∷ 3 ∷ 0 ∷ 4 ∷ 0 ∷ 5 ∷ []) } ∷
    record { P = 4; got = ask_register A (incoming 1 ++ literal 1) 0; want = said false } ∷
    record { P = 4; got = ask_register A (incoming 1 ++ literal 1) 5; want = said true } ∷
    -- P5: "'at least 2 out by 0, true' lists nothing, length 0; threshold 3 is refused 7"
    record { P = 5; got = list S1 (out 2 ++ truth) 100; want = wrote [] } ∷
    record { P = 5; got = list S1 (out 2 ++ truth) 0; want = wrote [] } ∷
    record { P = 5; got = list S1 (out 3 ++ truth) 100; want = refused 7 } ∷
    -- P6: "one at-least inside another on A's summary: 7; on A itself answered"
    record { P = 6; got = ask_summary S1 (out 1 ++ incoming 1 ++ truth) 0; want = refused 7 } ∷
    record { P = 6; got = list S1 (out 1 ++ incoming 1 ++ truth) 100; want = refused 7 } ∷
    record { P = 6; got = ask_register A (out 1 ++ incoming 1 ++ truth) 0; want = said true } ∷
    record { P = 6; got = ask_register A (out 1 ++ incoming 1 ++ truth) 3; want = said false } ∷
    -- P7: "literals 0, 33, −33 and byte 128: 5; 32 and −32 accepted", on a summary and on a register
    record { P = 7; got = ask_summary S1 (literal 0) 0; want = refused 5 } ∷
    record { P = 7; got = ask_summary S1 (literal 33) 0; want = refused 5 } ∷
    record { P = 7; got = ask_summary S1 (literal 223) 0; want = refused 5 } ∷
    record { P = 7; got = ask_summary S1 (literal 128) 0; want = refused 5 } ∷
    record { P = 7; got = ask_summary S1 (literal 32) 0; want = said false } ∷
    record { P = 7; got = ask_summary S1 (literal 224) 0; want = said true } ∷
    record { P = 7; got = ask_register A (literal 0) 0; want = refused 5 } ∷
    record { P = 7; got = ask_register A (literal 33) 0; want = refused 5 } ∷
    record { P = 7; got = ask_register A (literal 223) 0; want = refused 5 } ∷
    record { P = 7; got = ask_register A (literal 128) 0; want = refused 5 } ∷
    record { P = 7; got = ask_register A (literal 32) 0; want = said false } ∷
    record { P = 7; got = ask_register A (literal 224) 0; want = said true } ∷
    -- P8: "level 1 has 3 classes and 1 group, level 2 has 4 and 3"
    record { P = 8; got = counts 1 1 chain; want = wrote (3 ∷ 1 ∷ []) } ∷
    record { P = 8; got = counts 2 1 chain; want = wrote (4 ∷ 3 ∷ []) } ∷
    -- P9: "the hoist's row says 2, and 'at least 2 out by 0, true' holds at it; µ = 2: 3"
    record { P = 9; got = row 1 three 0; want = wrote (0 ∷ 0 ∷ 1 ∷ 2 ∷ []) } ∷
    record { P = 9; got = asked 1 three (out 2 ++ truth); want = said true } ∷
    record { P = 9; got = row 2 three 0; want = wrote (0 ∷ 0 ∷ 1 ∷ 3 ∷ []) } ∷
    -- P10: "'at least 2 out by 0, true' holds at the hoist, as 1 + 1"
    record { P = 10; got = row 1 pair 0; want = wrote (0 ∷ 0 ∷ 1 ∷ 1 ∷ []) } ∷
    record { P = 10; got = row 1 pair 1; want = wrote (0 ∷ 0 ∷ 2 ∷ 1 ∷ []) } ∷
    record { P = 10; got = asked 1 pair (out 2 ++ truth); want = said true } ∷
    -- P11: "the empty register gives 24 bytes, all offsets 24"
    record { P = 11; got = condense 1 1 1 empty 24; want = wrote none } ∷
    record { P = 11; got = condense 1 1 1 empty 23; want = refused 9 } ∷
    []

unfoldable pub table : List Case
table = numbered ++ (registers ++ (questions ++ (holding ++ (reaching ++ (well_formedness ++ (condensing ++ (checking ++ (orders ++ lent))))))))

unfoldable pub passes : List Case → Bool
passes [] = true
passes (c ∷ cs) = equal c.got c.want && passes cs
