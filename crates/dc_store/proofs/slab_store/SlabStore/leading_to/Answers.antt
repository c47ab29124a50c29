use Rattle.dc_store.proofs.Keeps.{keeps_now}
use Rattle.dc_store.proofs.Leading.{absent_leads, if_none, none_leads, some_leads}
use Rattle.dc_store.proofs.slab_store.SlabStore.leading_to.Goals as goal

pub returns-in_err-get-clause-none : goal.returns-in_err-get-clause-none
returns-in_err-get-clause-none c = if_none _ (absent_leads (keeps_now c.self.invariant c.self.view_is) c.args.dir c.args.number c.in_err-get.ensures.value)

pub returns-clause-found : goal.returns-clause-found
returns-clause-found c = some_leads (keeps_now c.self.invariant c.self.view_is) c.args.dir c.args.number _ c.in_ok-get.ensures.value c.leading_to.result c.leading_to.ensures.found

pub returns-clause-none : goal.returns-clause-none
returns-clause-none c = none_leads (keeps_now c.self.invariant c.self.view_is) c.args.dir c.args.number _ c.in_ok-get.ensures.value c.leading_to.result c.leading_to.ensures.none
