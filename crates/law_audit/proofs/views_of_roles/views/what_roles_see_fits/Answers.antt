use Rattle.law_audit.proofs.RoleViews.EachView as proved
use Rattle.law_audit.proofs.views_of_roles.views.what_roles_see_fits.Goals as goal

pub returns : goal.returns
returns c = record {
  ci_put = proved.ci_put;
  ci_came = proved.ci_came;
  is_put = proved.is_put;
  is_came = proved.is_came;
  os_put = proved.os_put;
  os_came = proved.os_came;
  co_put = proved.co_put;
  co_came = proved.co_came;
}
