-- The worked examples of the rules.
use Rattle.std.specs.Prelude.{◌≡◌, ℕ, zero, suc, ◌+◌, ◌*◌, ◌/◌, ◌≤◌, List, [], ◌∷◌, replicate}
use Rattle.rules.specs.declared.by_type.ByType.{ByType}
use Rattle.rules.specs.declared.change.Change.{Change}
use Rattle.rules.specs.declared.change.Change.TheVariants.{Issue, Join, Withdraw}
use Rattle.rules.specs.declared.item_type.ItemType.{ItemType}
use Rattle.rules.specs.declared.item_type.ItemType.TheVariants.{One, Two}
use Rattle.rules.specs.declared.kind.Kind.{Kind}
use Rattle.rules.specs.declared.kind.Kind.TheVariants.{Series, Parallel}
use Rattle.rules.specs.declared.part_number.PartNumber.{PartNumber}
use Rattle.rules.specs.declared.refusal.Refusal.{Refusal}
use Rattle.rules.specs.declared.refusal.Refusal.TheVariants.{TooManyItems, TooManyOfType, NeverGiven, Withdrawn, BuiltIn, BenchTooShort}
use Rattle.rules.specs.Refusals.{number_of}
use Rattle.rules.specs.Types.{type_number}
use Rattle.rules.specs.History.{History, given, place_in}
use Rattle.rules.specs.Rules.{Rule, Allowed, Refused}
use Rattle.rules.specs.Ruled.{naming, change_rules, change_number, Lawful}
use Rattle.rules.specs.Trees.{tree_of, type_in}
use Rattle.tally.specs.declared.prices.Prices.{Prices}
use Rattle.tally.specs.Counts.{counted, counts}
use Rattle.tally.specs.Pricing.{price_of, prices}
use Rattle.tally.specs.Losses.{CheapestLoss}
use Rattle.cells.specs.Tables.{table_of}
use Rattle.signature.specs.Polynomials.{Polynomial, one_at}
use Rattle.signature.specs.Signature.{signature}
use Rattle.place_set.specs.declared.PlaceSet.{PlaceSet}
use Rattle.plan.specs.Lockouts.{lockout_rules}
use Rattle.plan.specs.Plans.{Structure, locked_out, mirrored}
use Rattle.plan.specs.Paths.{types_of, plan_of_paths, path_list_rules}
use Rattle.plan.specs.LinePlans.{plan_of_line}
use Rattle.count.specs.Counts.{working_states, count_rules}
use Rattle.survey.specs.Surveys.{sums_of, survey_rules}
use Rattle.row.specs.Rows.{FailureRow, row_rules}
use Rattle.survival.specs.LowHigh.{S}
use Rattle.survival.specs.Ruled.{survival_rules, SurvivalOf}

-- a call with these rules is refused by e, which has the number n
abbrev pub RefusedWith : List Rule → Refusal → ℕ → Type 0
RefusedWith rules e n = Refused rules e × (number_of e ≡ n)

-- the change is accepted after h, and answers the number n
abbrev pub Accepted : History → Change → ℕ → Type 0
Accepted h d n = Allowed (change_rules h d) × (change_number h d ≡ n)

-- the long count takes the plan, and its cells are those of f
abbrev pub HasCells : Structure → Polynomial → Type 0
HasCells plan f = Allowed (count_rules plan) × (working_states plan ≡ f)

-- the part number n
abbrev pub line : ℕ → PartNumber
line n = record { value = n }

-- Three items and two blocks, by the changes that make them, the newest first: items 1, 2 and 3 of
-- the types t, u and v, series 4 over 1 and 2, parallel 5 over 4 and 3.
abbrev pub five_lines : ℕ → ℕ → ℕ → History
five_lines t u v =
    Join Parallel (line 4) (line 3)
    ∷ Join Series (line 1) (line 2)
    ∷ Issue v
    ∷ Issue u
    ∷ Issue t
    ∷ []

-- the example book
abbrev pub example : History
example = five_lines 1 1 2

-- the example's cells: (2, 0, 0) is 1, (0, 1, 0) is 1, (1, 1, 0) is 2, (2, 1, 0) is 1, all others are 0
abbrev pub example_cells : Polynomial
example_cells a b c = one_at 2 0 0 a b c + one_at 0 1 0 a b c + 2 * one_at 1 1 0 a b c + one_at 2 1 0 a b c

-- the example book with all three items of the type t
abbrev pub of_one_type : ItemType → History
of_one_type t = five_lines (type_number t) (type_number t) (type_number t)

-- half of S for every type
abbrev pub half_shares : ByType ℕ
half_shares = record { one = S / 2; two = S / 2; three = S / 2 }

-- types 1, 1 and 2 at the places 0, 1 and 2, and the other 13 places empty
abbrev pub example_types : List ℕ
example_types = 1 ∷ 1 ∷ 2 ∷ replicate 13 0

-- the paths {0, 1} and {2}, by their masks
abbrev pub example_paths : List PlaceSet
example_paths = record { mask = 3 } ∷ record { mask = 4 } ∷ []

abbrev pub example_plan : Structure
example_plan = plan_of_paths (types_of example_types) example_paths

-- the example book without line 5, and then with the lines 3 and 4 joined
abbrev pub without_5 : History
without_5 = Withdraw (line 5) ∷ example

abbrev pub with_6 : Kind → History
with_6 k = Join k (line 3) (line 4) ∷ without_5

-- h, and then n items of the type with the number t issued
abbrev pub issued : ℕ → ℕ → History → History
issued zero t h = h
issued (suc n) t h = Issue t ∷ issued n t h

-- sixteen items: seven of type 1, seven of type 2, two of type 3
abbrev pub sixteen : History
sixteen = issued 2 3 (issued 7 2 (issued 7 1 []))

pub record WorkedExamples : Type 0 where
  -- THE EXAMPLE BOOK. Each of its changes is accepted, and five numbers are given.
  pub book_lawful : Lawful example
  pub book_given : given example ≡ 5
  -- Under count the pair of line 5 is (5, 3).
  pub count_5 : sums_of counts example 5 ≡ record { working = counted 5; failing = counted 3 }
  -- Under the signature the first sum of line 5 is the table of the example's cells.
  pub signature_5 : (sums_of signature example 5).working ≡ table_of example_cells
  -- With the price 40 for type 1 and 25 for type 2, whatever that for type 3, the cheapest loss of
  -- line 5 is 65, and so is its second sum.
  pub loss_5 : (p : Prices) → price_of p One ≡ 40 → price_of p Two ≡ 25
      → CheapestLoss p (type_in example) (tree_of example 5) 65 × ((sums_of (prices p) example 5).failing.value ≡ 65)
  -- With the share S / 2 for every type the low and the high of line 5 are both 671,088,640.
  pub survival_5 : Allowed (survival_rules example 5 half_shares) × SurvivalOf example 5 half_shares 671088640 671088640
  -- With the share 1 for type 1, whatever allowed shares the others have, the low of line 4 is 0 and
  -- its high is 1.
  pub survival_4 : (s : ByType ℕ) → Allowed (survival_rules example 4 s) → s.one ≡ 1 → SurvivalOf example 4 s 0 1
  -- The plan of line 5 has the example's cells too.
  pub plan_5 : HasCells (plan_of_line example 5) example_cells
  -- PATH LIST. It is not refused, and has the example's cells.
  pub paths_allowed : Allowed (path_list_rules example_types example_paths)
  pub paths : HasCells example_plan example_cells
  -- The mirror over it has (1, 1, 0) 2 and (2, 1, 0) 1, and all others 0.
  pub mirror : HasCells (mirrored example_plan) (λ a b c. 2 * one_at 1 1 0 a b c + one_at 2 1 0 a b c)
  -- The lockout of place 2 over it has (2, 0, 0) 1 and (2, 1, 0) 1, and all others 0.
  pub lockout_allowed : Allowed (lockout_rules 2)
  pub lockout : HasCells (locked_out 2 example_plan) (λ a b c. one_at 2 0 0 a b c + one_at 2 1 0 a b c)
  -- FAILURE ROW. With all three items of one type, whichever it is, the failure row of line 5 is
  -- answered on a bench of five places or more, and is 0, 4, 2 and four zeros.
  pub row_lawful : (t : ItemType) → Lawful (of_one_type t)
  pub row_allowed : (t : ItemType) (places : ℕ) → 5 ≤ places → Allowed (row_rules (of_one_type t) 5 places)
  pub row_5 : (t : ItemType) → FailureRow (of_one_type t) 5 t (0 ∷ 4 ∷ 2 ∷ replicate 4 0)
  -- WITHDRAWAL. In the example book withdrawing 4 is refused with 17, and withdrawing 5 is accepted.
  pub withdraw_4 : RefusedWith (change_rules example (Withdraw (line 4))) BuiltIn 17
  pub withdraw_5 : Accepted example (Withdraw (line 5)) 5
  -- Then joining 3 and 4, to a block of either kind, answers 6.
  pub join_3_4 : (k : Kind) → Accepted without_5 (Join k (line 3) (line 4)) 6
  -- Then a survey of 5, on a bench of any length, is refused with 16, and a question about 7 with 15.
  pub survey_5 : (k : Kind) (places : ℕ) → RefusedWith (survey_rules (with_6 k) 5 places) Withdrawn 16
  pub question_7 : (k : Kind) → RefusedWith (naming (with_6 k) 7) NeverGiven 15
  -- LIMITS. Sixteen items may be issued, and a seventeenth is refused with 12.
  pub items_16 : Lawful sixteen
  pub items_17 : RefusedWith (change_rules sixteen (Issue 3)) TooManyItems 12
  -- Seven items of each type may be issued, and an eighth is refused with 13.
  pub of_type_7 : (t : ItemType) → Lawful (issued 7 (type_number t) [])
  pub of_type_8 : (t : ItemType) → RefusedWith (change_rules (issued 7 (type_number t) []) (Issue (type_number t))) TooManyOfType 13
  -- With five lines standing a survey on a bench of five places is answered, that of line 5 with its
  -- place 4, and one on a bench of four is refused with 21.
  pub bench_5 : Allowed (survey_rules example 5 5) × (place_in example 5 ≡ 4)
  pub bench_4 : RefusedWith (survey_rules example 5 4) BenchTooShort 21
