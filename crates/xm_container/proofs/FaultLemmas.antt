-- Faults of a configuration and of an image, inside their container.
use Rattle.std.proofs.Common.{ℕ, Result, ap}
use Rattle.xm_conf.specs.Configuration.{Conf}
use Rattle.bin_config.specs.Gives.{Fails as XmcFails}
use Rattle.fault_messages.specs.declared.fault.XmcFault.{XmcFault}
use Rattle.fault_messages.specs.declared.fault.XmcFault.TheVariants as xmc
use Rattle.xef_images.specs.Image.{Image}
use Rattle.xef_images.specs.Gives.{Fails as XefFails}
use Rattle.fault_messages.specs.declared.fault.XefFault.{XefFault}
use Rattle.fault_messages.specs.declared.fault.XefFault.TheVariants as xef
use Rattle.xm_container.specs.Gives.{Fails}
use Rattle.xm_container.specs.Reading.{as_config, as_image, config_fault, image_fault}

-- the fault of a configuration is that of its container
pub config_fails : (fault : XmcFault) (read : Result Conf XmcFault) → XmcFails fault read → Fails (config_fault fault) (as_config read)
config_fails xmc.Memory read e = tt
config_fails other read e = ap as_config e

-- the fault of an image is that of its container
pub image_fails : (id : ℕ) (fault : XefFault) (read : Result Image XefFault) → XefFails fault read → Fails (image_fault id fault) (as_image id read)
image_fails id xef.Memory read e = tt
image_fails id other read e = ap (as_image id) e
