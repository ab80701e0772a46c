-- The lists of both users, as a function of the user.
use Rattle.link_lock.specs.declared.user.User.{User}
use Rattle.link_lock.specs.declared.user.User.TheVariants.{First, Second}

-- rule: CONC-13
abbrev pub both_lists : {L : Type 0} → L → L → User → L
both_lists first second First = first
both_lists first second Second = second

-- the same lists with another one for this user
abbrev pub with_list : {L : Type 0} → (User → L) → User → L → User → L
with_list lists First list First = list
with_list lists First list Second = lists Second
with_list lists Second list First = lists First
with_list lists Second list Second = list
