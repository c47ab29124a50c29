-- Each event keeps the rule, by the laws of the crates below.
use Rattle.dc_events.specs.Laws.{TreeLaws, HoldersKeepTheRule, WalkersKeepTheRule}
use Rattle.dc_events.proofs.Below.{FactsBelow}
use Rattle.dc_events.proofs.Holder as holder
use Rattle.dc_events.proofs.Rows as rows
use Rattle.dc_events.proofs.Walks as walks

pub holders_keep : TreeLaws → HoldersKeepTheRule
holders_keep laws = record {
  take = λ limit rows words views hist id v R at. holder.takes R id v at;
  shut = λ limit n words views hist id v R at has row inside. rows.shuts R id v at has row inside;
  write = λ limit n words views hist id v R at has row inside. rows.rewrites R id v at has row inside;
  open_row = λ limit n words views hist id v R at has row inside. rows.opens R id v at has row inside;
  commit = λ limit n words views hist id v R at. holder.commits R id v at laws;
  give = λ limit n words views hist id v R at. holder.gives R id v at;
  answer = λ limit n words views hist id v R at. holder.answers R id v at;
}

pub walkers_keep : FactsBelow → WalkersKeepTheRule
walkers_keep laws = record {
  begin = λ limit n words views hist id v R at. walks.begins R id v at;
  again_so = λ limit n words views hist id v R at. walks.agains R id v at;
  quit_so = λ limit n words views hist id v R at. walks.quits R id v at;
  note = λ limit n words views hist id v R at. walks.notes R id v at;
  read_so = λ limit n words views hist id v R at. walks.reads R id v at;
  pivot = λ limit n words views hist id v R at. walks.pivots R id v at laws;
  fault = λ limit n words views hist id v R at. walks.faults_keep R id v at;
  check = λ limit n words views hist id v R at. walks.checks R id v at laws;
}
