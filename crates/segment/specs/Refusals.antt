-- Refusals and endings by their numbers.
use Rattle.std.specs.Prelude.{ℕ, List, codes, Some, None, Ok, Err, Option, Result}
use Rattle.segment.specs.declared.refusals.Refusal.{Refusal}
use Rattle.segment.specs.declared.refusals.Refusal.TheVariants.{Clients, Count, NoClient, NoNode, AlreadyOn, SignedOff, OperationOpen, Rounds, NothingThere, NothingOpen, NoAnswer, NothingWaits}
use Rattle.segment.specs.declared.refusals.Ending.{Ending}
use Rattle.segment.specs.declared.refusals.Ending.TheVariants.{CountsUsed, RoundsUsed}

-- The number of each refusal.
abbrev pub refusal : Refusal → ℕ
refusal Clients = 6
refusal Count = 7
refusal NoClient = 8
refusal NoNode = 9
refusal AlreadyOn = 10
refusal SignedOff = 11
refusal OperationOpen = 12
refusal Rounds = 13
refusal NothingThere = 14
refusal NothingOpen = 15
refusal NoAnswer = 16
refusal NothingWaits = 19

-- The number of each ending.
abbrev pub ending : Ending → ℕ
ending CountsUsed = 17
ending RoundsUsed = 18

-- What each refusal says.
abbrev pub sentence : Refusal → List ℕ
sentence Clients = codes "there are not 1 to 8 clients"
sentence Count = codes "the first count is above 999,999,999"
sentence NoClient = codes "no such client"
sentence NoNode = codes "no such node"
sentence AlreadyOn = codes "the client is on already"
sentence SignedOff = codes "the client is off"
sentence OperationOpen = codes "the client has an operation open"
sentence Rounds = codes "the rounds are not 1 to 250"
sentence NothingThere = codes "no request waits in that mailbox"
sentence NothingOpen = codes "the client has no operation open"
sentence NoAnswer = codes "there is no answer in that mailbox"
sentence NothingWaits = codes "no request waits anywhere"

-- What each ending says.
abbrev pub ending_sentence : Ending → List ℕ
ending_sentence CountsUsed = codes "there is no higher count left"
ending_sentence RoundsUsed = codes "nothing readable was found in the allowed rounds"

-- The number by which a call was refused, if it was.
abbrev pub refused : {A : Type 0} → Result A Refusal → Option ℕ
refused (Ok x) = None
refused (Err e) = Some (refusal e)
