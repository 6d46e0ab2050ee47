-- The desk in the tables against a list of requests, and what a crash may leave of it.
use Rattle.std.specs.Prelude.{◌≡◌, ◌⊎◌, ℕ, Bool, false, List, ◌∷◌, Option, Some, Result, Ok, Err, IsTrue, ⊤}
use Rattle.sqlite.specs.Effect.{Database}
use Rattle.sqlite.specs.State.{State}
use Rattle.sqlite_trees.specs.Tree.{Trees}
use Rattle.desk_tables.specs.Calls.{Ends, Undoes}
use Rattle.desk_tables.specs.Rows.{DeskRows, Holds, HoldsUnindexed, version_in}
use Rattle.onix_records.specs.declared.faults.StoreFault.{StoreFault}
use Rattle.series_rules.specs.Gaps.{AreHeldFrom, IsGreatest, NoneBelow, report_by}
use Rattle.series_rules.specs.Series.{IsNext}
use Rattle.series_rules.specs.declared.answers.GapReport.{GapReport}
use Rattle.series_rules.specs.declared.requests.Request.{Request}
use Rattle.series_rules.specs.declared.requests.Standing.{Standing}
use Rattle.desk_rows.specs.Stands.{StandsFor, StandsForIn}

-- the database holds what those requests come to
abbrev pub HoldsRequests : Database → List Request → Type 0
HoldsRequests db L = (rows : DeskRows) × Holds db rows × StandsFor rows L

-- the database has these rows in version 2, with the index on articles or without it
abbrev pub HoldsSecond : Database → DeskRows → Type 0
HoldsSecond db rows = Holds db rows ⊎ (HoldsUnindexed db rows × (version_in rows ≡ Some 2))

-- so it may hold, in a file, what those requests come to
abbrev pub StoresRequests : Database → List Request → Type 0
StoresRequests db L = (rows : DeskRows) × HoldsSecond db rows × StandsForIn 2 rows L

-- the trees are those of a database that holds what those requests come to, with the index or
-- without it
abbrev pub AreRowsOf : Trees → List Request → Type 0
AreRowsOf trees L = (db : Database) × (db.trees ≡ trees) × StoresRequests db L

-- while the connection is open, it is in no transaction, and its database holds what those requests
-- come to, committed
abbrev pub KeepsRequests : State → List Request → Type 0
KeepsRequests s L =
    IsTrue s.is_open
    → (s.in_transaction ≡ false) × HoldsRequests s.now L × HoldsRequests s.committed L

-- what a request does in a transaction
abbrev pub Answers : {A : Type 0} → Request → (List Request → A) → DeskRows → A → DeskRows → Type 0
Answers r answer rows a now =
    (L : List Request) → StandsFor rows L → StandsFor now (r ∷ L) × (a ≡ answer L)

-- the end of a transaction in which that was answered: an answer is given once it is committed, and
-- a fault undoes what was done
abbrev pub Finishes : {A : Type 0} → State → State → Bool → Result A StoreFault
    → Result A StoreFault → Type 0
Finishes old new spent (Err fault) result = (result ≡ Err fault) × Undoes old new
Finishes old new spent (Ok a) result =
    ((result ≡ Ok a) × Ends {A = ⊤} old new spent (Ok tt))
    ⊎ ((fault : StoreFault) × (result ≡ Err fault) × Ends {A = ⊤} old new spent (Err fault))

-- what a question does in a transaction
abbrev pub OnlyAnswers : {A : Type 0} → (List Request → A) → DeskRows → A → DeskRows → Type 0
OnlyAnswers answer rows a now =
    (now ≡ rows) × ((L : List Request) → StandsFor rows L → a ≡ answer L)

-- the report is that on whatever stands so in the series
abbrev pub Reports : List ℕ → ℕ → ℕ → List ℕ → GapReport → Type 0
Reports s first next numbers report =
    (f : ℕ → Option Standing) (greatest : Option ℕ) → NoneBelow f first
    → IsNext f first next
    → AreHeldFrom f next numbers
    → IsGreatest f greatest
    → report ≡ report_by s f first next greatest
