-- Nine worked ranges, as one list. The spread is 500.
use Rattle.std.specs.Prelude.{◌≡◌, ℕ, List, [], ◌∷◌, Some, None, Option}
use Rattle.protocol.specs.declared.messages.Range.{Range}
use Rattle.protocol.specs.declared.messages.Vote.{Vote}
use Rattle.protocol.specs.declared.messages.Vote.TheVariants.{Yes, No}
use Rattle.protocol.specs.declared.messages.Decision.{Decision}
use Rattle.protocol.specs.declared.messages.Decision.TheVariants.{Commit, Abort}
use Rattle.protocol.specs.declared.sites.PerSite.{PerSite}
use Rattle.protocol.specs.Limits.{last_tick}
use Rattle.protocol.specs.Formulas.{range, vote_of, tallied, Each}

-- a step of a worked case: a vote, of LAST, the LATEST of each delaying transaction, the clock at joining and the clock at the
-- vote; or a tally of two ranges
pub data Step : Type 0 where
  Votes : ℕ → List ℕ → ℕ → ℕ → Vote → Step
  Tallied : Range → Range → Decision → Step

abbrev pub two : Range → Range → PerSite (Option Range)
two g h = record { cell0 = Some g; cell1 = Some h; cell2 = None; cell3 = None }

abbrev pub Holds : Step → Type 0
Holds (Votes last delays start clock v) = vote_of last delays start clock 500 ≡ v
Holds (Tallied g h k) = tallied (two g h) ≡ k

abbrev pub worked : List (List Step)
worked =
    -- joined at clock 1,000, votes at 1,200
    (Votes 0 [] 1000 1200 (Yes (range 1000 1700)) ∷ [])
    -- ranges that meet in one tick
    ∷ ((Tallied (range 1000 1700) (range 1700 1700) (Commit 1700) ∷ [])
    -- ranges that miss each other by one tick
    ∷ ((Tallied (range 1000 1700) (range 1701 1900) Abort ∷ [])
    -- LAST pushes the earliest tick
    ∷ ((Votes 1700 [] 1100 1300 (Yes (range 1701 1800)) ∷ [])
    -- a delay hold turns the vote to no
    ∷ ((Votes 0 (1700 ∷ []) 1100 1200 No ∷ [])
    -- and one tick later leaves one tick
    ∷ ((Votes 0 (1700 ∷ []) 1100 1201 (Yes (range 1701 1701)) ∷ [])
    -- the clock was set back after joining
    ∷ ((Votes 0 [] 2000 1400 No ∷ [])
    -- the end of time
    ∷ ((Votes last_tick [] 0 last_tick No ∷ [])
    -- a reader and a writer that cross over two cells, all joined at clock 1,000: the reader votes at the first cell, the writer
    -- of what it read there is delayed by it and commits at 1,501 at both cells, and the reader's vote at the second cell then
    -- misses its first one
    ∷ ((Votes 0 [] 1000 1000 (Yes (range 1000 1500)) ∷ (Votes 0 (1500 ∷ []) 1000 1100 (Yes (range 1501 1600)) ∷ (Votes 0 [] 1000 1100 (Yes (range 1000 1600))
    ∷ (Tallied (range 1501 1600) (range 1000 1600) (Commit 1501) ∷ (Votes 1501 [] 1000 1400 (Yes (range 1502 1900)) ∷ (Tallied (range 1000 1500) (range 1502 1900) Abort ∷ []))))))
    ∷ []))))))))

abbrev pub AllHold : Type 0
AllHold = Each (Each Holds) worked
