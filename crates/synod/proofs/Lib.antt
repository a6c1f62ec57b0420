-- Why the servers of one slot agree: the invariant by parts, the steps that keep it, and what follows.

-- one slot as a machine, and what its past tells
pub mod Machine
pub mod Past
-- the ground: updated functions, sets of drives, the past, marks
pub mod Update
pub mod Quorums
pub mod Ghosts
pub mod Marks
-- the invariant: of one server, of a proposal, of two servers, of a server and all proposals, of a commit; and whole
pub mod One
pub mod Proposals
pub mod Crossed
pub mod Rivals
pub mod Commits
pub mod Invariant
-- what follows from it
pub mod Agreement
-- places and rules taken apart; what steps have in common; the frame
pub mod Places
pub mod Rulings
pub mod Grows
pub mod Frame
pub mod Advances
pub mod Clears
pub mod Meetings
-- the steps that neither propose nor commit
pub mod OfferStep
pub mod RejoinStep
pub mod BidStep
pub mod WriteStep
pub mod ReadStep
-- phase 3, by a commit or by learning one; Finish
pub mod AgreeStep
pub mod Completes
pub mod Choosing
pub mod ChooseProposals
pub mod ChooseRivals
pub mod ChooseCommits
pub mod ChooseStep
pub mod CommitStep
-- every step; what steps do to outputs and offers; slots that are alike
pub mod Kept
pub mod Outputs
pub mod Alike
